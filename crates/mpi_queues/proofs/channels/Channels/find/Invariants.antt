use Rattle.std.proofs.Common.{◌≡◌, ◌-◌, length}
use Rattle.std.specs.List.{range_with_len}
use Rattle.mpi_queues.specs.Firsts.{first_answer}
use Rattle.mpi_queues.specs.Pairs.{taken, taken_from}
use Rattle.mpi_queues.proofs.channels.Channels.find.Given as goal

abbrev pub invariant-loop-from : goal.invariant-loop-from
invariant-loop-from l = taken l.self l.to l.p ≡ first_answer (taken_from l.self l.to l.p) (range_with_len l.from (length l.self - l.from))
