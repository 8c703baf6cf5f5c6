use Rattle.std.proofs.Common.{◌≡◌, ◌+◌, ◌*◌, max, map, drop}
use denote.Param.Weighed.{most}
use Rattle.c_kernel.proofs.program.Stmt.TheLaws.{the_size}
use Rattle.ccift_lower.specs.Lowered as spec
use Rattle.ccift_lower.specs.Lowered.{arm_lowering, lowerings, sizes}
use Rattle.ccift_lower.proofs.size.+sizes.Given as goal

abbrev pub decreases-size : goal.decreases-size
decreases-size l = 8 * goal.size-size l

abbrev pub decreases-size_all : goal.decreases-size_all
decreases-size_all l = 8 * goal.size-size_all l + 1

abbrev pub decreases-arms_size : goal.decreases-arms_size
decreases-arms_size l = 8 * max (goal.size-arms_size l) (most the_size l.otherwise.now) + 2

abbrev pub decreases-for_size : goal.decreases-for_size
decreases-for_size l = 8 * goal.size-for_size l + 2

abbrev pub invariant-arms_size-loop-at : goal.invariant-arms_size-loop-at
invariant-arms_size-loop-at l = l.total + spec.arms_size (map arm_lowering (drop l.at l.arms)) (lowerings l.otherwise) ≡ spec.arms_size (map arm_lowering l.arms) (lowerings l.otherwise) + sizes (lowerings l.otherwise)

abbrev pub invariant-size_all-loop-s : goal.invariant-size_all-loop-s
invariant-size_all-loop-s l = l.total + sizes (lowerings (drop l.s-index l.ss)) ≡ sizes (lowerings l.ss)
