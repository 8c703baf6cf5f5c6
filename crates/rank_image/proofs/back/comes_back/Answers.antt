use Rattle.std.proofs.Common.{ap, ◌∙◌}
use Rattle.flat_code.specs.Restart.{put_back}
use Rattle.rank_machine.specs.Saving.{saved_by}
use Rattle.rank_image.proofs.Comes.{few, leads_there, is_there, none_left, at_mark, for_state}
use Rattle.rank_image.proofs.back.comes_back.Goals as goal

pub come_to_mark-requires-clause-few : goal.come_to_mark-requires-clause-few
come_to_mark-requires-clause-few c = few c.args.code.now.value c.args.rank c.args.ranks c.args.state.now c.requires c.as_slice-sites.result.now c.as_slice-sites.ensures

pub come_to_mark-requires-clause-leads : goal.come_to_mark-requires-clause-leads
come_to_mark-requires-clause-leads c =
    let m = c.in_ok-machine in
    leads_there c.args.code.now.value c.args.rank c.args.ranks c.args.state.now c.requires c.as_slice-sites.result.now c.as_slice-sites.ensures m.machine m.ensures.functions m.ensures.machine m.ensures.left

pub finish_restart-requires-clause-mode : goal.finish_restart-requires-clause-mode
finish_restart-requires-clause-mode c =
    let m = c.in_ok-machine in
    none_left c.args.code.now.value c.args.rank c.args.ranks c.args.state.now c.requires c.as_slice-sites.result.now c.as_slice-sites.ensures m.machine m.ensures.functions m.ensures.machine m.ensures.left
    c.come_to_mark.new.machine c.in_ok-come_to_mark.ensures.functions c.in_ok-come_to_mark.ensures.there c.in_ok-come_to_mark.ensures.left

pub finish_restart-requires-clause-mark : goal.finish_restart-requires-clause-mark
finish_restart-requires-clause-mark c =
    let m = c.in_ok-machine in
    at_mark c.args.code.now.value c.args.rank c.args.ranks c.args.state.now c.requires c.as_slice-sites.result.now c.as_slice-sites.ensures m.machine m.ensures.functions m.ensures.machine m.ensures.left
    c.come_to_mark.new.machine c.in_ok-come_to_mark.ensures.functions c.in_ok-come_to_mark.ensures.there

pub finish_restart-requires-clause-state : goal.finish_restart-requires-clause-state
finish_restart-requires-clause-state c =
    let m = c.in_ok-machine in
    for_state c.args.code.now.value c.args.rank c.args.ranks c.args.state.now c.requires c.as_slice-sites.result.now c.as_slice-sites.ensures m.machine m.ensures.functions m.ensures.machine m.ensures.left
    c.come_to_mark.new.machine c.in_ok-come_to_mark.ensures.functions c.in_ok-come_to_mark.ensures.there

pub returns-clause-machine : goal.returns-clause-machine
returns-clause-machine c =
    let m = c.in_ok-machine in
    λ t leads. c.in_ok-finish_restart.ensures.machine ∙ ap (put_back (saved_by c.args.state.now)) (is_there c.args.code.now.value c.args.rank c.args.ranks c.args.state.now c.requires c.as_slice-sites.result.now c.as_slice-sites.ensures m.machine m.ensures.functions m.ensures.machine m.ensures.left
    c.come_to_mark.new.machine c.in_ok-come_to_mark.ensures.functions c.in_ok-come_to_mark.ensures.there t leads)
