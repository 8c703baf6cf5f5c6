use Rattle.mpi_queues.proofs.Rows.{pair_alone}
use Rattle.mpi_queues.proofs.law.pair_alone.Goals as goal

pub returns : goal.returns
returns c = pair_alone
