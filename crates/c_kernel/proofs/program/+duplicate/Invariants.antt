use Rattle.std.proofs.Common.{◌≡◌, ◌+◌, ◌*◌, ◌++◌, drop}
use Rattle.c_kernel.proofs.program.+duplicate.Given as goal

-- an expression's depth, and how near a function is to the expression that it goes down to

abbrev pub decreases-Expr::copy : goal.decreases-Expr::copy
decreases-Expr::copy l = 8 * goal.size-Expr::copy l

abbrev pub decreases-copy::boxed : goal.decreases-copy::boxed
decreases-copy::boxed l = 8 * goal.size-copy::boxed l + 1

abbrev pub decreases-copy::links : goal.decreases-copy::links
decreases-copy::links l = 8 * goal.size-copy::links l + 1

abbrev pub decreases-copy::selection : goal.decreases-copy::selection
decreases-copy::selection l = 8 * goal.size-copy::selection l + 1

abbrev pub decreases-copy::steps : goal.decreases-copy::steps
decreases-copy::steps l = 8 * goal.size-copy::steps l + 2

abbrev pub decreases-copy::root : goal.decreases-copy::root
decreases-copy::root l = 8 * goal.size-copy::root l + 2

abbrev pub decreases-copy::Place+Expr::copy : goal.decreases-copy::Place+Expr::copy
decreases-copy::Place+Expr::copy l = 8 * goal.size-copy::Place+Expr::copy l + 3

abbrev pub invariant-copy::links-loop-link : goal.invariant-copy::links-loop-link
invariant-copy::links-loop-link l = l.copies ++ drop l.link-index l.links ≡ l.links

abbrev pub invariant-copy::steps-loop-step : goal.invariant-copy::steps-loop-step
invariant-copy::steps-loop-step l = l.copies ++ drop l.step-index l.steps ≡ l.steps
