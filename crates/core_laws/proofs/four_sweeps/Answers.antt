use Rattle.core_laws.proofs.CoreKept.{start_kept, session_kept}
use Rattle.core_laws.proofs.KeptForSweeps.{keeps_kept, prompt_kept}
use Rattle.core_laws.specs.Process.{ranks}
use Rattle.core_laws.specs.Kept.{IsKept}
use Rattle.core_laws.proofs.SweepStages.{staged_first, staged_next, staged_last}
use Rattle.core_laws.proofs.LineRises.{four_sweeps, four_or_end}
use Rattle.core_laws.specs.CoreEvents.{start_of, session_of}
use Rattle.core_laws.proofs.four_sweeps.Goals as goal

pub returns : goal.returns
returns c d = record {
  commits = λ P n core es some kept prompt all calm four. four_sweeps (ranks P) n (IsKept P n) (keeps_kept P n) core es some kept prompt all calm four;
  unless_finished = λ P ended n core es some kept prompt all calm four goes. four_or_end (ranks P) ended n (IsKept P n) (keeps_kept P n) core es some kept prompt all calm four goes;
  session = λ P n before es some all calm four. four_sweeps (ranks P) n (IsKept P n) (keeps_kept P n) (session_of (ranks P) n (start_of (ranks P)) before) es some (session_kept P n before (start_of (ranks P)) (start_kept P n)) (prompt_kept P n before some) all calm four;
  first = λ P n core h p all. staged_first n (IsKept P n) core h p all;
  each = λ P n core e i L some calm h. staged_next (ranks P) n i L (IsKept P n) (keeps_kept P n) core e some calm h;
  last = λ P n core i L e h. staged_last n i L (IsKept P n) core e h;
}
