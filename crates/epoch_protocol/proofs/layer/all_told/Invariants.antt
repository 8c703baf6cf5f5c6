use Rattle.std.proofs.Common.{◌≡◌, true, None, get_or}
use Rattle.core_laws.specs.Handling.{all_below, is_told}
use Rattle.epoch_protocol.proofs.layer.all_told.Given as goal

abbrev pub invariant-loop-rank : goal.invariant-loop-rank
invariant-loop-rank l = all_below l.rank (λ x. is_told (get_or l.told x None) (get_or l.old x 0)) ≡ true
