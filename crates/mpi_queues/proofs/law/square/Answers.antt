use Rattle.mpi_queues.proofs.Rows.{stays_square}
use Rattle.mpi_queues.proofs.law.square.Goals as goal

pub returns : goal.returns
returns c = stays_square
