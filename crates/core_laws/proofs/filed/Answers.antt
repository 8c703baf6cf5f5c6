use Rattle.core_laws.proofs.AllWritten.{start_filed, next_filed, next_filed_pausing, restart_filed, disk_filed}
use Rattle.core_laws.proofs.filed.Goals as goal

pub returns : goal.returns
returns c d = record { next = next_filed; paused = next_filed_pausing; restart = restart_filed; begins = start_filed; disk = disk_filed }
