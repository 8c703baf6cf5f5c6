-- A step reads the newest call's variables and the calls below it, and what follows where it is given.
use Rattle.std.proofs.Common.{◌≡◌, ℕ, Bool, List, [], ◌∷◌, Some, None, refl, ap, sym, ◌∙◌}
use Rattle.c3_base.specs.declared.cell.Cell.{Cell}
use Rattle.c_kernel.specs.declared.types.Extent.{Extent}
use Rattle.c_kernel.specs.declared.program.Expr.{Expr}
use Rattle.c_kernel.specs.declared.program.Function.{Function}
use Rattle.c_kernel.specs.declared.program.Place.{Place}
use Rattle.c_kernel.specs.declared.program.Action.{Action}
use Rattle.c_kernel.specs.declared.program.Action.TheVariants.{Zero, Set, Call, Malloc}
use Rattle.c_kernel.specs.declared.program.Stmt.{Stmt, out-Stmt}
use Rattle.c_kernel.specs.declared.program.Stmt.TheOpen.{Stmt-F}
use Rattle.c_kernel.specs.declared.program.Stmt.TheOpen as stmt
use Rattle.c_memory.specs.Memory.{Memory, is_full, cells_asked}
use Rattle.c_values.specs.Value.{value_of}
use Rattle.c_meaning.specs.State.{Item, Body, Rest, Begun, Acting, Awaiting, Testing, Stepping, State}
use Rattle.c_meaning.specs.State as state
use Rattle.c_meaning.specs.Step.{goes_on, does, acts, stores, allocates, with_ok, tests, steps, awaited, step_in}

-- a state and a call with other calls and another list in place of what follows
abbrev pub other : State → List state.Call → State
other s calls = record s { calls = calls }

abbrev pub called : state.Call → List Item → state.Call
called top items = record top { todo = items }

same_does : (functions : List Function) (s : State) (calls : List state.Call) (top : state.Call) (items : List Item) (below : List state.Call) (todo : List Item) (x : Stmt) (y : Stmt-F Stmt) → does functions (other s calls) (called top items) below todo x y ≡ does functions s top below todo x y
same_does functions s calls top items below todo x (stmt.Actions actions) = refl
same_does functions s calls top items below todo x (stmt.Block ss) = refl
same_does functions s calls top items below todo x (stmt.If arms otherwise) = refl
same_does functions s calls top items below todo x (stmt.While e ss) = refl
same_does functions s calls top items below todo x (stmt.DoWhile ss e) = refl
same_does functions s calls top items below todo x (stmt.For start e last ss) = refl
same_does functions s calls top items below todo x stmt.Break = refl
same_does functions s calls top items below todo x stmt.Continue = refl
same_does functions s calls top items below todo x (stmt.Return None) = refl
same_does functions s calls top items below todo x (stmt.Return (Some e)) = refl
same_does functions s calls top items below todo x (stmt.Print format arguments) = refl
same_does functions s calls top items below todo x (stmt.Free e) = refl
same_does functions s calls top items below todo x (stmt.Mpi call) = refl
same_does functions s calls top items below todo x stmt.Mark = refl

same_acts : (functions : List Function) (refuses : Memory → ℕ → Bool) (s : State) (calls : List state.Call) (top : state.Call) (items : List Item) (below : List state.Call) (todo : List Item) (a : Action) → acts functions refuses (other s calls) (called top items) below todo a ≡ acts functions refuses s top below todo a
same_acts functions refuses s calls top items below todo (Zero k) = refl
same_acts functions refuses s calls top items below todo (Set place value) = refl
same_acts functions refuses s calls top items below todo (Call into f arguments) = refl
same_acts functions refuses s calls top items below todo (Malloc place bytes each) = refl

-- an assignment, with what follows it
pub acted_set : (functions : List Function) (s : State) (top : state.Call) (below : List state.Call) (items todo : List Item) (a : Action) (place : Place Expr) (value : Expr) → items ≡ todo → a ≡ Set place value →
    with_ok (value_of value top.variables s.memory) (stores s top below items place) ≡ acts functions is_full s top below todo a
acted_set functions s top below items todo a place value e f =
    ap (λ (rest : List Item). with_ok (value_of value top.variables s.memory) (stores s top below rest place)) e ∙ sym (ap (acts functions is_full s top below todo) f)

-- a malloc, with what follows it
pub acted_malloc : (functions : List Function) (s : State) (top : state.Call) (below : List state.Call) (items todo : List Item) (a : Action) (place : Place Expr) (bytes : Expr) (each : Extent) → items ≡ todo → a ≡ Malloc place bytes each →
    with_ok (value_of bytes top.variables s.memory) (λ n. allocates is_full s top below items place (cells_asked n.word each)) ≡ acts functions is_full s top below todo a
acted_malloc functions s top below items todo a place bytes each e f =
    ap (λ (rest : List Item). with_ok (value_of bytes top.variables s.memory) (λ n. allocates is_full s top below rest place (cells_asked n.word each))) e ∙ sym (ap (acts functions is_full s top below todo) f)

same_tests : (s : State) (calls : List state.Call) (top : state.Call) (items : List Item) (below : List state.Call) (todo : List Item) (x : Stmt) (y : Stmt-F Stmt) → tests (other s calls) (called top items) below todo x y ≡ tests s top below todo x y
same_tests s calls top items below todo x (stmt.Actions actions) = refl
same_tests s calls top items below todo x (stmt.Block ss) = refl
same_tests s calls top items below todo x (stmt.If arms otherwise) = refl
same_tests s calls top items below todo x (stmt.While e ss) = refl
same_tests s calls top items below todo x (stmt.DoWhile ss e) = refl
same_tests s calls top items below todo x (stmt.For start None last ss) = refl
same_tests s calls top items below todo x (stmt.For start (Some e) last ss) = refl
same_tests s calls top items below todo x stmt.Break = refl
same_tests s calls top items below todo x stmt.Continue = refl
same_tests s calls top items below todo x (stmt.Return e) = refl
same_tests s calls top items below todo x (stmt.Print format arguments) = refl
same_tests s calls top items below todo x (stmt.Free e) = refl
same_tests s calls top items below todo x (stmt.Mpi call) = refl
same_tests s calls top items below todo x stmt.Mark = refl

same_steps : (s : State) (calls : List state.Call) (top : state.Call) (items : List Item) (below : List state.Call) (todo : List Item) (x : Stmt) (y : Stmt-F Stmt) → steps (other s calls) (called top items) below todo x y ≡ steps s top below todo x y
same_steps s calls top items below todo x (stmt.Actions actions) = refl
same_steps s calls top items below todo x (stmt.Block ss) = refl
same_steps s calls top items below todo x (stmt.If arms otherwise) = refl
same_steps s calls top items below todo x (stmt.While e ss) = refl
same_steps s calls top items below todo x (stmt.DoWhile ss e) = refl
same_steps s calls top items below todo x (stmt.For start e last ss) = refl
same_steps s calls top items below todo x stmt.Break = refl
same_steps s calls top items below todo x stmt.Continue = refl
same_steps s calls top items below todo x (stmt.Return e) = refl
same_steps s calls top items below todo x (stmt.Print format arguments) = refl
same_steps s calls top items below todo x (stmt.Free e) = refl
same_steps s calls top items below todo x (stmt.Mpi call) = refl
same_steps s calls top items below todo x stmt.Mark = refl

pub same_step : (functions : List Function) (refuses : Memory → ℕ → Bool) (s : State) (calls : List state.Call) (top : state.Call) (items : List Item) (below : List state.Call) (todo : List Item) → goes_on functions refuses (other s calls) (called top items) below todo ≡ goes_on functions refuses s top below todo
same_step functions refuses s calls top items below [] = refl
same_step functions refuses s calls top items below (Body ss ∷ todo) = refl
same_step functions refuses s calls top items below (Rest [] ∷ todo) = refl
same_step functions refuses s calls top items below (Rest (x ∷ xs) ∷ todo) = refl
same_step functions refuses s calls top items below (Begun x ∷ todo) = same_does functions s calls top items below todo x (out-Stmt x)
same_step functions refuses s calls top items below (Acting [] ∷ todo) = refl
same_step functions refuses s calls top items below (Acting (a ∷ actions) ∷ todo) = same_acts functions refuses s calls top items below (Acting actions ∷ todo) a
same_step functions refuses s calls top items below (Awaiting t ∷ todo) = refl
same_step functions refuses s calls top items below (Testing x ∷ todo) = same_tests s calls top items below todo x (out-Stmt x)
same_step functions refuses s calls top items below (Stepping x ∷ todo) = same_steps s calls top items below todo x (out-Stmt x)

-- one step of a state whose newest call, and what follows first in it, were taken from it
pub stepped : (functions : List Function) (refuses : Memory → ℕ → Bool) (s : State) (calls : List state.Call) (top : state.Call) (below : List state.Call) (items todo : List Item) → calls ≡ top ∷ below → top.todo ≡ todo → goes_on functions refuses (other s below) (called top items) below todo ≡ step_in functions refuses s calls
stepped functions refuses s calls top below items todo e f = same_step functions refuses s below top items below todo ∙ ap (goes_on functions refuses s top below) (sym f) ∙ sym (ap (step_in functions refuses s) e)

same_awaited : (s : State) (top : state.Call) (items : List Item) (below : List state.Call) (todo : List Item) (v : Cell) → awaited s (called top items) below todo v ≡ awaited s top below todo v
same_awaited s top items below [] v = refl
same_awaited s top items below (Body ss ∷ todo) v = refl
same_awaited s top items below (Rest ss ∷ todo) v = refl
same_awaited s top items below (Begun x ∷ todo) v = refl
same_awaited s top items below (Acting actions ∷ todo) v = refl
same_awaited s top items below (Awaiting None ∷ todo) v = refl
same_awaited s top items below (Awaiting (Some t) ∷ todo) v = refl
same_awaited s top items below (Testing x ∷ todo) v = refl
same_awaited s top items below (Stepping x ∷ todo) v = refl

-- a result comes back to a call, from which what follows first was taken
pub came_back : (s : State) (top : state.Call) (items : List Item) (below : List state.Call) (todo : List Item) (v : Cell) → top.todo ≡ todo → awaited s (called top items) below todo v ≡ awaited s top below top.todo v
came_back s top items below todo v e = same_awaited s top items below todo v ∙ ap (λ t. awaited s top below t v) (sym e)
