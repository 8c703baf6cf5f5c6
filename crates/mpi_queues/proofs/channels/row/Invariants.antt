use Rattle.std.proofs.Common.{◌≡◌, [], replicate}
use Rattle.mpi_queues.proofs.channels.row.Given as goal

abbrev pub invariant-loop : goal.invariant-loop
invariant-loop l = l.row.items ≡ replicate l.counter []
