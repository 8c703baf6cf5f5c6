use Rattle.std.proofs.Common.{◌≡◌, take}
use Rattle.c_kernel.proofs.program.copy.copies.Given as goal

abbrev pub invariant-loop-e : goal.invariant-loop-e
invariant-loop-e l = l.copies ≡ take l.e-index l.es
