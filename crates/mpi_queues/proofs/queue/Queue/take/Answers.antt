use Rattle.std.proofs.Common.{arith, ◌∙◌, ap, sym, option_and_then}
use Rattle.mpi_words.specs.Matching.{matches}
use Rattle.mpi_queues.specs.Firsts.{taken_at}
use Rattle.mpi_queues.proofs.Places.{at_place, first_removed}
use Rattle.mpi_queues.proofs.queue.Queue.take.Goals as goal

pub returns-in_err-at-clause-taken : goal.returns-in_err-at-clause-taken
returns-in_err-at-clause-taken c = rw c.from_residual.ensures (sym (at_place (matches c.args.p.now c.args.source) c.args.self.now ∙ ap (option_and_then (taken_at c.args.self.now)) (sym c.in_err-at.ensures)))

pub returns-clause-taken : goal.returns-clause-taken
returns-clause-taken c = rw c.self.view_is at (first_removed (matches c.args.p.now c.args.source) c.self.inside.messages.items _ c.in_ok-at.at c.remove.result (rw c.self.view_is c.in_ok-at.ensures) (λ h. c.remove.ensures.variant.1 (omega (arith, h, c.self.inside.messages.ok.0))) c.remove.ensures.value c.remove.ensures.items)
