use Rattle.core_laws.proofs.KeptForSweeps.{keeps_on, on_session, prompt_on}
use Rattle.core_laws.specs.Pausing.{stepping}
use Rattle.core_laws.specs.PausingKept.{IsKeptPausing}
use Rattle.core_laws.proofs.SweepStages.{staged_first, staged_next, staged_last}
use Rattle.core_laws.proofs.LineRises.{four_sweeps, four_or_end}
use Rattle.core_laws.specs.CoreEvents.{start_of, session_of}
use Rattle.core_laws.proofs.four_sweeps_with_pauses.Goals as goal

pub returns : goal.returns
returns c d = record {
  commits = λ P n core es some kept prompt all calm four. four_sweeps (stepping P) n (IsKeptPausing P n) (keeps_on P n) core es some kept prompt all calm four;
  unless_finished = λ P ended n core es some kept prompt all calm four goes. four_or_end (stepping P) ended n (IsKeptPausing P n) (keeps_on P n) core es some kept prompt all calm four goes;
  session = λ P n before es some all calm four. four_sweeps (stepping P) n (IsKeptPausing P n) (keeps_on P n) (session_of (stepping P) n (start_of (stepping P)) before) es some (on_session P n before) (prompt_on P n before some) all calm four;
  first = λ P n core h p all. staged_first n (IsKeptPausing P n) core h p all;
  each = λ P n core e i L some calm h. staged_next (stepping P) n i L (IsKeptPausing P n) (keeps_on P n) core e some calm h;
  last = λ P n core i L e h. staged_last n i L (IsKeptPausing P n) core e h;
}
