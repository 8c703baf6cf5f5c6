use Rattle.core_laws.proofs.Sessions.{begins_on, saved_on, restart_on, disk_on}
use Rattle.core_laws.proofs.KeptForSweeps.{each_on}
use Rattle.core_laws.proofs.MorePauses.{committed_more}
use Rattle.core_laws.proofs.sessions_with_pauses.Goals as goal

pub returns : goal.returns
returns c d = record { begins = begins_on; next = each_on; saved = saved_on; restart = restart_on; bound = committed_more; disk = disk_on }
