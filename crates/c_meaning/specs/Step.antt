-- What one step of a program does (C99 6.8).
use Rattle.std.specs.Prelude.{ℕ, ◌+◌, pos, Bool, true, false, nat_lt, if◌then◌else◌, List, [], ◌∷◌, length, map, Option, Some, None, Result, Ok, Err, slice_get}
use Rattle.c3_base.specs.declared.cell.Cell.{Cell}
use Rattle.mpi_words.specs.declared.operation.Op.TheVariants as op
use Rattle.mpi_words.specs.declared.operation.End.TheVariants.{Exit, Fault}
use Rattle.mpi_words.specs.declared.operation.Reply.{Reply}
use Rattle.mpi_words.specs.declared.operation.Reply.TheVariants as reply
use Rattle.c_kernel.specs.declared.types.IntegerType.TheVariants.{Int}
use Rattle.c_kernel.specs.declared.program.Function.{Function}
use Rattle.c_kernel.specs.declared.program.Program.{Program}
use Rattle.c_kernel.specs.declared.program.Expr.{Expr}
use Rattle.c_kernel.specs.declared.program.Place.{Place}
use Rattle.c_kernel.specs.declared.program.Arm.{Arm}
use Rattle.c_kernel.specs.declared.program.MpiCall.{MpiCall}
use Rattle.c_kernel.specs.declared.program.Action.{Action}
use Rattle.c_kernel.specs.declared.program.Action.TheVariants.{Zero, Set, Call, Malloc}
use Rattle.c_kernel.specs.declared.program.Stmt.{Stmt, out-Stmt}
use Rattle.c_kernel.specs.declared.program.Stmt.TheOpen.{Stmt-F}
use Rattle.c_kernel.specs.declared.program.Stmt.TheOpen as stmt
use Rattle.mpi_effects.specs.declared.seat.Seat.{Seat}
use Rattle.mpi_effects.specs.declared.seat.Phase.TheVariants.{Before}
use Rattle.mpi_effects.specs.declared.requests.Request.{Request}
use Rattle.mpi_effects.specs.declared.requests.Receipt.{Receipt}
use Rattle.c_values.specs.declared.value.Variables.{Variables}
use Rattle.c_memory.specs.Memory.{Memory, empty, number, store, zeroed, enter, leave, with_arguments, cells_asked, malloc, free}
use Rattle.c_values.specs.Value.{is_false, narrowed, read_of, variable_of, place_of, value_of, values_of}
use Rattle.c_values.specs.Variables.{variables_from}
use Rattle.c_values.specs.Text.{printed}
use Rattle.mpi_effects.specs.Requests.{plain_request, bytes_asked, receipt_of}
use Rattle.mpi_effects.specs.Mpi.{Effect, effect, received}
use Rattle.c_meaning.specs.State.{Item, Body, Rest, Begun, Acting, Awaiting, Testing, Stepping, State, Outcome, Goes, Asks, Ends, after_loop, to_loop}
use Rattle.c_meaning.specs.State as state

-- ---- a function (6.9.1)

abbrev pub body_of : List Function → ℕ → List Stmt
body_of functions f = elim (slice_get functions f) [ None ↦ [] | Some g ↦ g.body ]

-- how many cells each of its variables has
abbrev pub lengths_of : List Function → ℕ → List ℕ
lengths_of functions f = elim (slice_get functions f) [ None ↦ [] | Some g ↦ map (λ t. t.cells) g.variables ]

-- ---- how a step goes on

-- with a value, or ends with its fault
abbrev pub with_ok : {A : Type 0} → Result A ℕ → (A → Outcome) → Outcome
with_ok (Err code) go = Ends (Fault code)
with_ok (Ok v) go = go v

-- in the newest call, with what follows there
abbrev pub goes_to : State → state.Call → List state.Call → List Item → Outcome
goes_to s top below todo = Goes false (record s { calls = record top { todo = todo } ∷ below })

-- the same, with another memory
abbrev pub goes_with : State → state.Call → List state.Call → List Item → Memory → Outcome
goes_with s top below todo m = Goes false (record s { calls = record top { todo = todo } ∷ below; memory = m })

-- with an operation, which waits for its reply
abbrev pub asks : State → state.Call → List state.Call → List Item → Request → Outcome
asks s top below todo q = Asks q.operation (record s { calls = record top { todo = todo } ∷ below; asked = Some q })

-- ---- calls (6.5.2.2)

-- a call that begins
abbrev pub call_of : List Function → ℕ → ℕ → state.Call
call_of functions f first = record {
  todo = Body (body_of functions f) ∷ [];
  variables = variables_from first (length (lengths_of functions f));
}

-- a function is entered, above these calls
abbrev pub enters : List Function → State → List state.Call → ℕ → List Cell → Outcome
enters functions s calls f vs =
    with_ok (enter s.memory (lengths_of functions f)) (λ m. Goes false (record s {
      calls = call_of functions f s.memory.next ∷ calls;
      memory = with_arguments m s.memory.next vs;
    }))

-- a value is stored at a place
abbrev pub stores : State → state.Call → List state.Call → List Item → Place Expr → Cell → Outcome
stores s top below todo place v =
    with_ok (place_of place top.variables s.memory) (λ p. with_ok (store s.memory p v) (goes_with s top below todo))

-- the result of a call comes back to its caller, and goes to its place where it has one
abbrev pub awaited : State → state.Call → List state.Call → List Item → Cell → Outcome
awaited s caller below (Awaiting None ∷ todo) v = goes_to s caller below todo
awaited s caller below (Awaiting (Some t) ∷ todo) v = stores s caller below todo t.place (read_of t.kind v)
awaited s caller below todo v = goes_to s caller below todo

-- main's value is the exit code
abbrev pub comes_back : State → List state.Call → Cell → Outcome
comes_back s [] v = Ends (Exit (narrowed Int v.word))
comes_back s (caller ∷ below) v = awaited s caller below caller.todo v

-- the newest call ends: its variables die, and its result comes back
abbrev pub returned : State → state.Call → List state.Call → Cell → Outcome
returned s top below v = comes_back (record s { calls = below; memory = leave s.memory top.variables.count }) below v

-- what malloc gives is stored at a place
abbrev pub allocates : (Memory → ℕ → Bool) → State → state.Call → List state.Call → List Item → Place Expr → Option ℕ → Outcome
allocates refuses s top below todo place asked =
    let given = malloc refuses s.memory asked in
    stores (record s { memory = given.0 }) top below todo place given.1

-- ---- what is done at once

abbrev pub acts : List Function → (Memory → ℕ → Bool) → State → state.Call → List state.Call → List Item → Action → Outcome
acts functions refuses s top below todo (Zero k) = goes_with s top below todo (zeroed s.memory (variable_of k top.variables).serial)
acts functions refuses s top below todo (Set place value) = with_ok (value_of value top.variables s.memory) (stores s top below todo place)
acts functions refuses s top below todo (Call into f arguments) =
    with_ok (values_of arguments top.variables s.memory) (enters functions s (record top { todo = Awaiting into ∷ todo } ∷ below) f)
acts functions refuses s top below todo (Malloc place bytes each) =
    with_ok (value_of bytes top.variables s.memory) (λ n. allocates refuses s top below todo place (cells_asked n.word each))

-- ---- statements that have begun

-- the branch of an if: of the first arm whose test isn't 0, or the last
abbrev pub branch : List (Arm Stmt) → List Stmt → Variables → Memory → Result (List Stmt) ℕ
branch [] otherwise v m = Ok otherwise
branch (a ∷ arms) otherwise v m = elim (value_of a.test v m) [
  | Err code ↦ Err code
  | Ok c ↦ if is_false c then branch arms otherwise v m else Ok a.body
]

-- what printf prints, or 109 where the output would have more than 1,048,576 bytes
abbrev pub prints : State → state.Call → List state.Call → List Item → List ℕ → Outcome
prints s top below todo text = if nat_lt 1048576 (s.printed + length text) then Ends (Fault 109) else asks s top below todo (plain_request (op.Output text))

-- what a call of MPI comes to
abbrev pub comes_to : State → state.Call → List state.Call → List Item → Effect → Outcome
comes_to s top below todo e = elim e.request [
  | None ↦ Goes false (record s { calls = record top { todo = todo } ∷ below; memory = e.memory; phase = e.phase })
  | Some q ↦ asks (record s { memory = e.memory; phase = e.phase }) top below todo q
]

abbrev pub calls_mpi : State → state.Call → List state.Call → List Item → MpiCall → Outcome
calls_mpi s top below todo call =
    with_ok (values_of call.arguments top.variables s.memory) (λ vs.
    with_ok (effect s.seat s.phase s.memory call.function vs) (comes_to s top below todo))

abbrev pub does : List Function → State → state.Call → List state.Call → List Item → Stmt → Stmt-F Stmt → Outcome
does functions s top below todo x (stmt.Actions actions) = goes_to s top below (Acting actions ∷ todo)
does functions s top below todo x (stmt.Block ss) = goes_to s top below (Rest ss ∷ todo)
does functions s top below todo x (stmt.If arms otherwise) = with_ok (branch arms otherwise top.variables s.memory) (λ ss. goes_to s top below (Rest ss ∷ todo))
does functions s top below todo x (stmt.While e ss) = goes_to s top below (Testing x ∷ todo)
does functions s top below todo x (stmt.DoWhile ss e) = goes_to s top below (Rest ss ∷ Testing x ∷ todo)
does functions s top below todo x (stmt.For start e last ss) = goes_to s top below (Acting start ∷ Testing x ∷ todo)
does functions s top below todo x stmt.Break = goes_to s top below (after_loop todo)
does functions s top below todo x stmt.Continue = goes_to s top below (to_loop todo)
does functions s top below todo x (stmt.Return None) = returned s top below (number (pos 0))
does functions s top below todo x (stmt.Return (Some e)) = with_ok (value_of e top.variables s.memory) (returned s top below)
does functions s top below todo x (stmt.Print format arguments) = with_ok (values_of arguments top.variables s.memory) (λ vs. prints s top below todo (printed format vs))
does functions s top below todo x (stmt.Free e) = with_ok (value_of e top.variables s.memory) (λ p. with_ok (free s.memory p) (goes_with s top below todo))
does functions s top below todo x (stmt.Mpi call) = calls_mpi s top below todo call
does functions s top below todo x stmt.Mark = asks s top below todo (plain_request op.Mark)

-- ---- loops (6.8.5)

-- a turn of a loop, where the test isn't 0
abbrev pub turns : State → state.Call → List state.Call → List Item → Expr → List Item → Outcome
turns s top below todo e inside = with_ok (value_of e top.variables s.memory) (λ c. goes_to s top below (if is_false c then todo else inside))

abbrev pub tests : State → state.Call → List state.Call → List Item → Stmt → Stmt-F Stmt → Outcome
tests s top below todo x (stmt.While e ss) = turns s top below todo e (Rest ss ∷ Testing x ∷ todo)
tests s top below todo x (stmt.DoWhile ss e) = turns s top below todo e (Rest ss ∷ Testing x ∷ todo)
tests s top below todo x (stmt.For start (Some e) last ss) = turns s top below todo e (Rest ss ∷ Stepping x ∷ todo)
tests s top below todo x (stmt.For start None last ss) = goes_to s top below (Rest ss ∷ Stepping x ∷ todo)
tests s top below todo x _ = goes_to s top below todo

-- the last clause of a for
abbrev pub steps : State → state.Call → List state.Call → List Item → Stmt → Stmt-F Stmt → Outcome
steps s top below todo x (stmt.For start e last ss) = goes_to s top below (Acting last ∷ Testing x ∷ todo)
steps s top below todo x _ = goes_to s top below (Testing x ∷ todo)

-- ---- a step

-- what is first in the newest call. A function whose end is reached returns 0
abbrev pub goes_on : List Function → (Memory → ℕ → Bool) → State → state.Call → List state.Call → List Item → Outcome
goes_on functions refuses s top below [] = returned s top below (number (pos 0))
goes_on functions refuses s top below (Body ss ∷ todo) = Goes true (record s { calls = record top { todo = Rest ss ∷ todo } ∷ below })
goes_on functions refuses s top below (Rest [] ∷ todo) = goes_to s top below todo
goes_on functions refuses s top below (Rest (x ∷ xs) ∷ todo) = Goes true (record s { calls = record top { todo = Begun x ∷ Rest xs ∷ todo } ∷ below })
goes_on functions refuses s top below (Begun x ∷ todo) = does functions s top below todo x (out-Stmt x)
goes_on functions refuses s top below (Acting [] ∷ todo) = goes_to s top below todo
goes_on functions refuses s top below (Acting (a ∷ actions) ∷ todo) = acts functions refuses s top below (Acting actions ∷ todo) a
goes_on functions refuses s top below (Awaiting t ∷ todo) = goes_to s top below todo
goes_on functions refuses s top below (Testing x ∷ todo) = tests s top below todo x (out-Stmt x)
goes_on functions refuses s top below (Stepping x ∷ todo) = steps s top below todo x (out-Stmt x)

-- where no call is under way, main's frame found no room
abbrev pub step_in : List Function → (Memory → ℕ → Bool) → State → List state.Call → Outcome
step_in functions refuses s [] = Ends (Fault 108)
step_in functions refuses s (top ∷ below) = goes_on functions refuses s top below top.todo

-- one step. An operation waits for its reply. Where malloc may give NULL, it does so by a choice
abbrev pub step : List Function → (Memory → ℕ → Bool) → State → Outcome
step functions refuses s = elim s.asked [ None ↦ step_in functions refuses s s.calls | Some q ↦ Asks q.operation s ]

-- ---- whether the next step begins a statement

abbrev pub begins_first : List Item → Bool
begins_first [] = false
begins_first (Body ss ∷ todo) = true
begins_first (Rest [] ∷ todo) = false
begins_first (Rest (x ∷ xs) ∷ todo) = true
begins_first (Begun x ∷ todo) = false
begins_first (Acting actions ∷ todo) = false
begins_first (Awaiting t ∷ todo) = false
begins_first (Testing x ∷ todo) = false
begins_first (Stepping x ∷ todo) = false

abbrev pub begins_in : List state.Call → Bool
begins_in [] = false
begins_in (top ∷ below) = begins_first top.todo

abbrev pub begins : State → Bool
begins s = elim s.asked [ None ↦ begins_in s.calls | Some q ↦ false ]

-- ---- replies and the start

-- the operation is done
abbrev pub finished : State → State
finished s = record s { asked = None; printed = s.printed + bytes_asked s.asked }

-- what is done with a message that came for a receive
abbrev pub taken_in : State → Option Receipt → Reply → Outcome
taken_in s (Some r) (reply.Got source message) = with_ok (received r s.memory source message) (λ m. Goes false (record s { memory = m }))
taken_in s _ _ = Goes false s

-- after the reply the rank goes on, or ends
abbrev pub answered : State → Reply → Outcome
answered s r = taken_in (finished s) (receipt_of s.asked) r

-- main is entered, by one of so many ranks
abbrev pub seat_of : Program → ℕ → ℕ → Seat
seat_of p rank ranks = record { rank = rank; ranks = ranks; any_source = p.any_source }

abbrev pub start : Program → ℕ → ℕ → State
start p rank ranks = elim (enter empty (lengths_of p.functions p.main)) [
  | Err code ↦ record { calls = []; memory = empty; seat = seat_of p rank ranks; phase = Before; printed = 0; asked = None }
  | Ok m ↦ record { calls = call_of p.functions p.main 1 ∷ []; memory = m; seat = seat_of p rank ranks; phase = Before; printed = 0; asked = None }
]
