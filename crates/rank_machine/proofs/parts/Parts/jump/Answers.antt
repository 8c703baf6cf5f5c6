use Rattle.rank_machine.specs.State.{frame_of, machine_with}
use Rattle.rank_machine.proofs.Sites.{a_place, no_place, no_site}
use Rattle.rank_machine.proofs.parts.Parts.jump.Goals as goal

pub returns-in_default-clause-again : goal.returns-in_default-clause-again
returns-in_default-clause-again c below =
    let parts = c.args.self.now in
    let frame = c.args.frame.now in
    no_site (machine_with parts frame below) (frame_of frame) below parts.sites.sites parts.sites.replayed c.args.sites.now c.in_default.ensures.next

pub returns-in_default-place_named-clause-again : goal.returns-in_default-place_named-clause-again
returns-in_default-place_named-clause-again c below =
    let parts = c.args.self.now in
    let frame = c.args.frame.now in
    no_place (machine_with parts frame below) (frame_of frame) below parts.sites.sites parts.sites.replayed c.in-Some.site c.args.sites.now c.in-Some.ensures.next c.in_default-place_named.ensures

pub returns-clause-again : goal.returns-clause-again
returns-clause-again c below =
    let parts = c.args.self.now in
    let frame = c.args.frame.now in
    rw (c.in-Some.ensures.some, c.in_ok-describe.ensures.serials) (a_place (machine_with parts frame below) (frame_of frame) below parts.sites.sites parts.sites.replayed c.in-Some.site c.in-Some-place_named.place c.args.sites.now c.in-Some.ensures.next c.in-Some-place_named.ensures)
