use Rattle.std.proofs.Common.{◌≡◌, take}
use Rattle.c_kernel.proofs.types.copy.copies_of_types.Given as goal

abbrev pub invariant-loop-kind : goal.invariant-loop-kind
invariant-loop-kind l = l.copies ≡ take l.kind-index l.types
