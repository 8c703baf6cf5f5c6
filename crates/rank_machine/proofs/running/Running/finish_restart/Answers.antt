use Rattle.std.proofs.Common.{refl, ◌∙◌}
use Rattle.std.proofs.lemmas.Result.{IfOk-weaker}
use Rattle.rank_machine.specs.State.{frames_of}
use Rattle.rank_machine.proofs.running.Running.finish_restart.Goals as goal

pub returns-clause-machine : goal.returns-clause-machine
returns-clause-machine c =
    IfOk-weaker c.put_back.result _ _ (λ done p. p (frames_of c.pass_mark.new.self.frames.items) ∙ rw (c.in_ok-pass_mark.ensures.frames, c.in_ok-number.ensures.frames, c.in_ok-pass_mark.ensures.parts, c.in_ok-number.ensures.parts, c.as_slice.ensures) refl) c.put_back.ensures.machine
