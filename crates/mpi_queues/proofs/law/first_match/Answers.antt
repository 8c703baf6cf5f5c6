use Rattle.mpi_queues.proofs.Orders.{first_match}
use Rattle.mpi_queues.proofs.law.first_match.Goals as goal

pub returns : goal.returns
returns c = first_match
