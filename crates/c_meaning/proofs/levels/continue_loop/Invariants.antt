use Rattle.std.proofs.Common.{◌≡◌, List, length}
use Rattle.c_kernel.specs.declared.program.Stmt.{Stmt}
use Rattle.c_meaning.specs.Running.{todo_of}
use Rattle.c_meaning.specs.State.{to_loop}
use Rattle.c_meaning.proofs.levels.continue_loop.Given as goal

abbrev pub invariant-loop-level : goal.invariant-loop-level
invariant-loop-level l = (body : List Stmt) → to_loop (todo_of body l.levels.items) ≡ to_loop (todo_of body l.fn.levels.items)

abbrev pub decreases-loop-level : goal.decreases-loop-level
decreases-loop-level l = length l.levels.items
