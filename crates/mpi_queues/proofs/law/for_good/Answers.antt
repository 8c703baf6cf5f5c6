use Rattle.mpi_queues.proofs.Orders.{given_for_good}
use Rattle.mpi_queues.proofs.law.for_good.Goals as goal

pub returns : goal.returns
returns c = given_for_good
