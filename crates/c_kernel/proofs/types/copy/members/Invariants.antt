use Rattle.std.proofs.Common.{◌≡◌, take}
use Rattle.c_kernel.proofs.types.copy.members.Given as goal

abbrev pub invariant-loop-member : goal.invariant-loop-member
invariant-loop-member l = l.copies ≡ take l.member-index l.members
