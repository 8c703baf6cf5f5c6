use Rattle.std.proofs.Common.{◌≡◌, ◌++◌, map, drop}
use Rattle.c_check.proofs.declaration.sizes_of.Given as goal

abbrev pub invariant-loop-n : goal.invariant-loop-n
invariant-loop-n l = l.values ++ map (λ n. n.value) (drop l.n-index l.sizes) ≡ map (λ n. n.value) l.sizes
