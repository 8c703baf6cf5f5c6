use Rattle.core_laws.proofs.KeptForSweeps.{keeps_on, prompt_on}
use Rattle.core_laws.specs.Pausing.{stepping}
use Rattle.core_laws.specs.PausingKept.{IsKeptPausing}
use Rattle.core_laws.proofs.PromptKept.{prompt_start, prompt_next, prompt_restarted}
use Rattle.core_laws.proofs.LineRises.{rises}
use Rattle.core_laws.specs.Core.{restores}
use Rattle.core_laws.specs.CoreEvents.{one_from}
use Rattle.core_laws.proofs.prompt_with_pauses.Goals as goal

pub returns : goal.returns
returns c d = record {
  begins = λ P n some. prompt_start (stepping P) n some;
  next = λ P n core e some h p. prompt_next (stepping P) n (IsKeptPausing P n) (keeps_on P n) core e some h p;
  restart = λ n L w some. prompt_restarted n L (λ r. (w r).early) (λ r. restores (one_from (w r)).log (one_from (w r)).left) some;
  session = λ P n es some. prompt_on P n es some;
  least = λ P n core e h. (rises (stepping P) n (IsKeptPausing P n) (keeps_on P n) core e h).0;
  most = λ P n core e h. (rises (stepping P) n (IsKeptPausing P n) (keeps_on P n) core e h).1;
}
