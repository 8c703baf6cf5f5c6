use Rattle.std.proofs.Common.{true}
use Rattle.core_laws.proofs.EventsKept.{inv_restarted}
use Rattle.core_laws.proofs.CoreKept.{next_kept}
use Rattle.core_laws.specs.Core.{restores}
use Rattle.core_laws.specs.CoreEvents.{one_from}
use Rattle.core_laws.proofs.says.Goals as goal

pub returns : goal.returns
returns c d = record {
  begins = λ P n. (inv_restarted n 0 (λ r x. 0) (λ r. true)).says;
  next = λ P n c e kept says. (next_kept P n c e kept).protocol.says;
  restart = λ n L w. (inv_restarted n L (λ r. (w r).early) (λ r. restores (one_from (w r)).log (one_from (w r)).left)).says;
}
