use Rattle.std.proofs.Common.{◌≡◌, true, false, get_or}
use Rattle.core_laws.specs.Handling.{all_below}
use Rattle.wave_commit.proofs.wave.first_failing.Given as goal

abbrev pub invariant-loop-rank : goal.invariant-loop-rank
invariant-loop-rank l = all_below l.rank (λ k. get_or l.flags k false) ≡ true
