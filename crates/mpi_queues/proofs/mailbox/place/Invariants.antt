use Rattle.std.proofs.Common.{◌≡◌, take, drop}
use Rattle.mpi_queues.specs.Arrivals.{given}
use Rattle.mpi_queues.proofs.Gifts.{passed}
use Rattle.mpi_queues.proofs.mailbox.place.Given as goal

abbrev pub invariant-loop-at : goal.invariant-loop-at
invariant-loop-at l = given l.patterns l.arrivals ≡ passed (take l.at l.arrivals) (given l.waiting.items (drop l.at l.arrivals))
