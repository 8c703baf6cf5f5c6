use Rattle.mpi_queues.proofs.Orders.{by_order_alone}
use Rattle.mpi_queues.proofs.law.by_order_alone.Goals as goal

pub returns : goal.returns
returns c = by_order_alone
