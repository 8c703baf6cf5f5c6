use Rattle.mpi_queues.proofs.Lowest.{is_named}
use Rattle.mpi_queues.proofs.law.named.Goals as goal

pub returns : goal.returns
returns c = is_named
