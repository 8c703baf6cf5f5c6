use Rattle.mpi_queues.proofs.Orders.{given_at_the_end}
use Rattle.mpi_queues.proofs.law.at_the_end.Goals as goal

pub returns : goal.returns
returns c = given_at_the_end
