use Rattle.core_laws.proofs.KeptForSweeps.{keeps_kept, prompt_kept}
use Rattle.core_laws.specs.Process.{ranks}
use Rattle.core_laws.specs.Kept.{IsKept}
use Rattle.core_laws.proofs.PromptKept.{prompt_start, prompt_next, prompt_restarted}
use Rattle.core_laws.proofs.LineRises.{rises}
use Rattle.core_laws.specs.Core.{restores}
use Rattle.core_laws.specs.CoreEvents.{one_from}
use Rattle.core_laws.proofs.prompt.Goals as goal

pub returns : goal.returns
returns c d = record {
  begins = λ P n some. prompt_start (ranks P) n some;
  next = λ P n core e some h p. prompt_next (ranks P) n (IsKept P n) (keeps_kept P n) core e some h p;
  restart = λ n L w some. prompt_restarted n L (λ r. (w r).early) (λ r. restores (one_from (w r)).log (one_from (w r)).left) some;
  session = λ P n es some. prompt_kept P n es some;
  least = λ P n core e h. (rises (ranks P) n (IsKept P n) (keeps_kept P n) core e h).0;
  most = λ P n core e h. (rises (ranks P) n (IsKept P n) (keeps_kept P n) core e h).1;
}
