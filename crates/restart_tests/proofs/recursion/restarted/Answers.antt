use Rattle.rank_image.proofs.Comes.{few, leads_there, none_left, at_mark, for_state}
use Rattle.restart_tests.proofs.recursion.restarted.Goals as goal

pub come_to_mark-requires-clause-few : goal.come_to_mark-requires-clause-few
come_to_mark-requires-clause-few g c = few c.args.code.now.value 0 1 c.args.state.now c.requires c.as_slice-sites.result.now c.as_slice-sites.ensures

pub come_to_mark-requires-clause-leads : goal.come_to_mark-requires-clause-leads
come_to_mark-requires-clause-leads g c =
    let m = c.in_ok-machine in
    leads_there c.args.code.now.value 0 1 c.args.state.now c.requires c.as_slice-sites.result.now c.as_slice-sites.ensures m.machine m.ensures.functions m.ensures.machine m.ensures.left

pub finish_restart-requires-clause-mode : goal.finish_restart-requires-clause-mode
finish_restart-requires-clause-mode g c =
    let m = c.in_ok-machine in
    none_left c.args.code.now.value 0 1 c.args.state.now c.requires c.as_slice-sites.result.now c.as_slice-sites.ensures m.machine m.ensures.functions m.ensures.machine m.ensures.left
    c.come_to_mark.new.machine c.in_ok-come_to_mark.ensures.functions c.in_ok-come_to_mark.ensures.there c.in_ok-come_to_mark.ensures.left

pub finish_restart-requires-clause-mark : goal.finish_restart-requires-clause-mark
finish_restart-requires-clause-mark g c =
    let m = c.in_ok-machine in
    at_mark c.args.code.now.value 0 1 c.args.state.now c.requires c.as_slice-sites.result.now c.as_slice-sites.ensures m.machine m.ensures.functions m.ensures.machine m.ensures.left
    c.come_to_mark.new.machine c.in_ok-come_to_mark.ensures.functions c.in_ok-come_to_mark.ensures.there

pub finish_restart-requires-clause-state : goal.finish_restart-requires-clause-state
finish_restart-requires-clause-state g c =
    let m = c.in_ok-machine in
    for_state c.args.code.now.value 0 1 c.args.state.now c.requires c.as_slice-sites.result.now c.as_slice-sites.ensures m.machine m.ensures.functions m.ensures.machine m.ensures.left
    c.come_to_mark.new.machine c.in_ok-come_to_mark.ensures.functions c.in_ok-come_to_mark.ensures.there
