use Rattle.mpi_queues.proofs.Lowest.{is_lowest}
use Rattle.mpi_queues.proofs.law.lowest.Goals as goal

pub returns : goal.returns
returns c = is_lowest
