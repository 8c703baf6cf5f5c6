use Rattle.core_laws.proofs.CoreKept.{start_kept, next_kept, restart_kept, session_kept, kept_live}
use Rattle.core_laws.specs.CoreEvents.{start}
use Rattle.core_laws.proofs.Sessions.{disk_kept}
use Rattle.core_laws.proofs.kept.Goals as goal

pub returns : goal.returns
returns c d = record {
  begins = start_kept;
  next = next_kept;
  restart = restart_kept;
  session = λ P n es. session_kept P n es (start P) (start_kept P n);
  live = kept_live;
  disk = disk_kept;
}
