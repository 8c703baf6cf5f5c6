use Rattle.std.proofs.Common.{◌≡◌, ◌+◌, ◌*◌, ◌++◌, max, map, drop, length}
use denote.Param.Weighed.{most}
use Rattle.c_kernel.proofs.program.Stmt.TheLaws.{the_size}
use Rattle.ccift_lower.specs.Lowered as spec
use Rattle.ccift_lower.specs.Lowered.{arm_lowering, codes, lowerings, sizes}
use Rattle.ccift_lower.proofs.emit.+emit.Given as goal

abbrev pub decreases-statement : goal.decreases-statement
decreases-statement l = 8 * goal.size-statement l

abbrev pub decreases-statements : goal.decreases-statements
decreases-statements l = 8 * goal.size-statements l + 1

abbrev pub decreases-choice : goal.decreases-choice
decreases-choice l = 8 * max (goal.size-choice l) (most the_size l.otherwise.now) + 3

abbrev pub decreases-put_arm : goal.decreases-put_arm
decreases-put_arm l = 8 * goal.size-put_arm l + 2

abbrev pub decreases-while_loop : goal.decreases-while_loop
decreases-while_loop l = 8 * goal.size-while_loop l + 2

abbrev pub decreases-do_loop : goal.decreases-do_loop
decreases-do_loop l = 8 * goal.size-do_loop l + 2

abbrev pub decreases-for_loop : goal.decreases-for_loop
decreases-for_loop l = 8 * goal.size-for_loop l + 2

abbrev pub invariant-choice-loop-at : goal.invariant-choice-loop-at
invariant-choice-loop-at l = record {
  code : l.code ++ spec.arms_code (map arm_lowering (drop l.at l.arms)) (lowerings l.otherwise) (length l.code) l.end l.leave l.again ≡ l.fn.code ++ spec.arms_code (map arm_lowering l.arms) (lowerings l.otherwise) (length l.fn.code) l.end l.leave l.again;
  length_so_far : length l.code + spec.arms_size (map arm_lowering (drop l.at l.arms)) (lowerings l.otherwise) ≡ length l.fn.code + spec.arms_size (map arm_lowering l.arms) (lowerings l.otherwise);
}

abbrev pub invariant-statements-loop-s : goal.invariant-statements-loop-s
invariant-statements-loop-s l = record {
  code : l.code ++ codes (lowerings (drop l.s-index l.ss)) (length l.code) l.leave l.again ≡ l.fn.code ++ codes (lowerings l.ss) (length l.fn.code) l.leave l.again;
  length_so_far : length l.code + sizes (lowerings (drop l.s-index l.ss)) ≡ length l.fn.code + sizes (lowerings l.ss);
}
