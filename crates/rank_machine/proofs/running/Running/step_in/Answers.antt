use Rattle.std.proofs.Common.{ap, sym, ◌∙◌}
use Rattle.std.proofs.lemmas.Result.{IfOk-weaker}
use Rattle.flat_code.specs.Machine.{step_in}
use Rattle.flat_code.specs.Placed.{none_fits}
use Rattle.rank_machine.specs.Placing.{laid_in}
use Rattle.rank_machine.specs.State.{frames_of, heap_of, laid_of, machine_of}
use Rattle.rank_machine.proofs.Frames.{frames_more}
use Rattle.rank_machine.proofs.running.Running.step_in.Goals as goal

pub returns-clause-outcome : goal.returns-clause-outcome
returns-clause-outcome c =
    let fs = c.args.functions.now in
    let parts = c.args.self.now.parts in
    let e = ap frames_of c.in-Some.ensures.items ∙ frames_more c.pop.new.self.items c.in-Some.frame in
    IfOk-weaker c.follow.result _ _ (λ step p. p ∙ c.in_ok-did.ensures.outcome (frames_of c.pop.new.self.items) ∙ sym (ap (λ x. step_in fs (none_fits (heap_of parts)) (machine_of parts x) x) e)) c.follow.ensures.outcome

pub returns-clause-laid : goal.returns-clause-laid
returns-clause-laid c =
    let fs = c.args.functions.now in
    let parts = c.args.self.now.parts in
    let e = ap frames_of c.in-Some.ensures.items ∙ frames_more c.pop.new.self.items c.in-Some.frame in
    IfOk-weaker c.follow.result _ _ (λ step on go. c.follow.ensures.laid ∙ c.in_ok-did.ensures.laid (on go) ∙ sym (ap (λ x. laid_in fs (machine_of parts x) (laid_of parts) x) e)) c.follow.ensures.on
