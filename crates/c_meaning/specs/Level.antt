-- Where a function stands among its statements, and what follows there.
use Rattle.std.specs.Prelude.{ℕ, ◌-◌, Bool, true, false, List, [], ◌∷◌, drop, Option, Some, None, slice_get}
use Rattle.c_kernel.specs.declared.program.Action.{Action}
use Rattle.c_kernel.specs.declared.program.Action.TheVariants.{Zero, Set, Call, Malloc}
use Rattle.c_kernel.specs.declared.program.Arm.{Arm}
use Rattle.c_kernel.specs.declared.program.Target.{Target}
use Rattle.c_kernel.specs.declared.program.Stmt.{Stmt, out-Stmt}
use Rattle.c_kernel.specs.declared.program.Stmt.TheVariants as variant
use Rattle.c_kernel.specs.declared.program.Stmt.TheOpen.{Stmt-F}
use Rattle.c_kernel.specs.declared.program.Stmt.TheOpen as stmt
use Rattle.c_meaning.specs.declared.level.Level.{Level}
use Rattle.c_meaning.specs.declared.level.Stage.{Stage}
use Rattle.c_meaning.specs.declared.level.Stage.TheVariants as stage
use Rattle.c_meaning.specs.declared.level.Part.{Part}
use Rattle.c_meaning.specs.declared.level.Part.TheVariants.{Own, Start, Last}
use Rattle.c_meaning.specs.State.{Item, Body, Rest, Begun, Acting, Awaiting, Testing, Stepping}

-- a branch of an if: an arm, and past the arms the last branch
abbrev pub branch_of : List (Arm Stmt) → List Stmt → ℕ → List Stmt
branch_of arms otherwise n = elim (slice_get arms n) [ None ↦ otherwise | Some a ↦ a.body ]

-- the statements inside a statement
abbrev pub branch_in : Stmt-F Stmt → ℕ → List Stmt
branch_in (stmt.Actions actions) n = []
branch_in (stmt.Block ss) n = ss
branch_in (stmt.If arms otherwise) n = branch_of arms otherwise n
branch_in (stmt.While e ss) n = ss
branch_in (stmt.DoWhile ss e) n = ss
branch_in (stmt.For start e last ss) n = ss
branch_in stmt.Break n = []
branch_in stmt.Continue n = []
branch_in (stmt.Return e) n = []
branch_in (stmt.Print format arguments) n = []
branch_in (stmt.Free e) n = []
branch_in (stmt.Mpi call) n = []
branch_in stmt.Mark n = []

-- what a statement does at once
abbrev pub actions_in : Stmt-F Stmt → Part → List Action
actions_in (stmt.Actions actions) Own = actions
actions_in (stmt.Actions actions) Start = []
actions_in (stmt.Actions actions) Last = []
actions_in (stmt.Block ss) part = []
actions_in (stmt.If arms otherwise) part = []
actions_in (stmt.While e ss) part = []
actions_in (stmt.DoWhile ss e) part = []
actions_in (stmt.For start e last ss) Own = []
actions_in (stmt.For start e last ss) Start = start
actions_in (stmt.For start e last ss) Last = last
actions_in stmt.Break part = []
actions_in stmt.Continue part = []
actions_in (stmt.Return e) part = []
actions_in (stmt.Print format arguments) part = []
actions_in (stmt.Free e) part = []
actions_in (stmt.Mpi call) part = []
actions_in stmt.Mark part = []

-- where the result of an action goes
abbrev pub target_of : Action → Option Target
target_of (Zero k) = None
target_of (Set place value) = None
target_of (Call into f arguments) = into
target_of (Malloc place bytes each) = None

abbrev pub target_before : List Action → ℕ → Option Target
target_before actions at = elim (slice_get actions (at - 1)) [ None ↦ None | Some a ↦ target_of a ]

-- the last statement of a block that has begun, and a break where there is none
abbrev pub or_break : Option Stmt → Stmt
or_break None = variant.Break
or_break (Some x) = x

abbrev pub statement_before : List Stmt → ℕ → Stmt
statement_before block next = or_break (slice_get block (next - 1))

abbrev pub inside : List Stmt → Level → List Stmt
inside block l = branch_in (out-Stmt (statement_before block l.next)) l.inner

-- after the actions of a for's clause comes its test
abbrev pub then_test : Stmt → Part → List Item → List Item
then_test x Own todo = todo
then_test x Start todo = Testing x ∷ todo
then_test x Last todo = Testing x ∷ todo

-- what comes next after the last of them
abbrev pub after_part : Part → Stage
after_part Own = stage.Between
after_part Start = stage.Testing
after_part Last = stage.Testing

abbrev pub acting : Stmt → Part → ℕ → List Item → List Item
acting x part at todo = Acting (drop at (actions_in (out-Stmt x) part)) ∷ then_test x part todo

-- what follows in a block, before these
abbrev pub level_items : List Stmt → ℕ → Stage → List Item → List Item
level_items block next stage.Entering todo = Body block ∷ todo
level_items block next stage.Between todo = Rest (drop next block) ∷ todo
level_items block next stage.Begun todo = Begun (statement_before block next) ∷ Rest (drop next block) ∷ todo
level_items block next stage.Testing todo = Testing (statement_before block next) ∷ Rest (drop next block) ∷ todo
level_items block next stage.Stepping todo = Stepping (statement_before block next) ∷ Rest (drop next block) ∷ todo
level_items block next (stage.Acting part at) todo = acting (statement_before block next) part at (Rest (drop next block) ∷ todo)
level_items block next (stage.Awaiting part at) todo =
    Awaiting (target_before (actions_in (out-Stmt (statement_before block next)) part) at) ∷ acting (statement_before block next) part at (Rest (drop next block) ∷ todo)

-- the block inside all of these levels
abbrev pub block_at : List Stmt → List Level → List Stmt
block_at block [] = block
block_at block (l ∷ ls) = block_at (inside block l) ls

-- what follows in all of these levels, the outermost first, before these
abbrev pub items_of : List Stmt → List Level → List Item → List Item
items_of block [] todo = todo
items_of block (l ∷ ls) todo = items_of (inside block l) ls (level_items block l.next l.stage todo)

-- ---- the loop that a break or a continue stands in

abbrev pub is_clause : Part → Bool
is_clause Own = false
is_clause Start = true
is_clause Last = true

-- whether a level stands in a loop
abbrev pub is_loop : Stage → Bool
is_loop stage.Entering = false
is_loop stage.Between = false
is_loop stage.Begun = false
is_loop stage.Testing = true
is_loop stage.Stepping = true
is_loop (stage.Acting part at) = is_clause part
is_loop (stage.Awaiting part at) = is_clause part

-- what comes next in a loop that goes on
abbrev pub again : Stage → Stage
again stage.Entering = stage.Testing
again stage.Between = stage.Testing
again stage.Begun = stage.Testing
again stage.Testing = stage.Testing
again stage.Stepping = stage.Stepping
again (stage.Acting part at) = stage.Testing
again (stage.Awaiting part at) = stage.Testing
