use Rattle.std.proofs.Common.{◌≡◌, take}
use Rattle.c_kernel.proofs.types.copy.copies_of_structs.Given as goal

abbrev pub invariant-loop-structure : goal.invariant-loop-structure
invariant-loop-structure l = l.copies ≡ take l.structure-index l.structs
