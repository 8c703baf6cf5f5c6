use Rattle.std.proofs.Common.{◌≡◌, take}
use Rattle.c_rules.proofs.types.narrowed.Given as goal

abbrev pub invariant-loop-n : goal.invariant-loop-n
invariant-loop-n l = l.narrow ≡ take l.n-index l.sizes
