use Rattle.core_laws.proofs.DiskKept.{disk_sessions_kept, disk_sessions_pausing}
use Rattle.core_laws.proofs.kept_on_disk.Goals as goal

pub returns : goal.returns
returns c d = record {
  kept = λ P n es. (disk_sessions_kept P n es).0;
  filed = λ P n es. (disk_sessions_kept P n es).1;
  kept_paused = λ P n es. (disk_sessions_pausing P n es).0;
  filed_paused = λ P n es. (disk_sessions_pausing P n es).1;
}
