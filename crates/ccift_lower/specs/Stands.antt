-- When a machine stands where a program does.
use Rattle.std.specs.Prelude.{◌≡◌, ℕ, ◌+◌, pos, List, [], ◌∷◌, map, Option, Some, None, Result, Ok, slice_get}
use Rattle.c3_base.specs.declared.cell.Cell.{Cell}
use Rattle.c_kernel.specs.declared.program.Action.{Action}
use Rattle.c_kernel.specs.declared.program.Arm.{Arm}
use Rattle.c_kernel.specs.declared.program.Expr.{Expr}
use Rattle.c_kernel.specs.declared.program.Function.{Function}
use Rattle.c_kernel.specs.declared.program.Target.{Target}
use Rattle.c_kernel.specs.declared.program.Stmt.{Stmt, out-Stmt}
use Rattle.c_kernel.specs.declared.program.Stmt.TheOpen as stmt
use Rattle.mpi_effects.specs.declared.seat.Seat.{Seat}
use Rattle.mpi_effects.specs.declared.seat.Phase.{Phase}
use Rattle.mpi_effects.specs.declared.requests.Request.{Request}
use Rattle.c_values.specs.declared.value.Variables.{Variables}
use Rattle.c_memory.specs.Memory.{Memory, number}
use Rattle.c_values.specs.Value.{Found, value_of}
use Rattle.c_meaning.specs.State.{Item, Body, Rest, Begun, Acting, Awaiting, Testing, Stepping, State}
use Rattle.c_meaning.specs.State as state
use Rattle.c_meaning.specs.Step.{branch}
use Rattle.flat_code.specs.declared.code.FlatFunction.{FlatFunction}
use Rattle.flat_code.specs.declared.code.Instr.{Instr}
use Rattle.flat_code.specs.declared.code.Instr.TheVariants.{Step, Call, Goto, Return}
use Rattle.flat_code.specs.Machine.{Frame, Machine, code_at}
use Rattle.ccift_lower.specs.Laid.{At, Acts, Laid, Chosen, Looped, Formed}

-- what a Return gives
abbrev pub result_of : Option Expr → Variables → Memory → Found
result_of None v m = Ok (number (pos 0))
result_of (Some e) v m = value_of e v m

-- a function's end
pub record EndsAt (code : List Instr) (p : ℕ) : Type 0 where
  pub end : Option Expr
  pub at : At code p (Return end)
  pub zero : (v : Variables) (m : Memory) → result_of end v m ≡ Ok (number (pos 0))

-- the code for what follows stands at a place. What follows the loop around it stands at a second, and where the loop goes on, a third
pub data Stands (code : List Instr) : List Item → ℕ → ℕ → ℕ → Type 0 where
  jumps : (todo : List Item) (p q leave again : ℕ) → At code p (Goto q) → Stands code todo q leave again → Stands code todo p leave again
  ends : (p leave again : ℕ) → EndsAt code p → EndsAt code leave → EndsAt code again → Stands code [] p leave again
  body : (ss : List Stmt) (todo : List Item) (p end leave again : ℕ) → At code p Step → Laid code ss (p + 1) end leave again → Stands code todo end leave again → Stands code (Body ss ∷ todo) p leave again
  rest : (ss : List Stmt) (todo : List Item) (p end leave again : ℕ) → Laid code ss p end leave again → Stands code todo end leave again → Stands code (Rest ss ∷ todo) p leave again
  begun : (x : Stmt) (todo : List Item) (p end leave again : ℕ) → Formed code (out-Stmt x) p end leave again → Stands code todo end leave again → Stands code (Begun x ∷ todo) p leave again
  acting : (al : List Action) (todo : List Item) (p end leave again : ℕ) → Acts code al p end → Stands code todo end leave again → Stands code (Acting al ∷ todo) p leave again
  testing : (x : Stmt) (todo : List Item) (p on end leave again : ℕ) → Looped code (out-Stmt x) p on end → Stands code todo end leave again → Stands code (Testing x ∷ todo) p end p
  stepping : (x : Stmt) (todo : List Item) (p on end leave again : ℕ) → Looped code (out-Stmt x) p on end → Stands code todo end leave again → Stands code (Stepping x ∷ todo) on end on

-- the calls below stand at their Calls, whose results they wait for
pub data Wait (code : List FlatFunction) : List state.Call → List Frame → Type 0 where
  none : Wait code [] []
  waits : (into : Option Target) (g : ℕ) (arguments : List Expr) (todo : List Item) (f p leave again : ℕ) (v : Variables) (calls : List state.Call) (frames : List Frame) →
      At (code_at code f) p (Call into g arguments) → Stands (code_at code f) todo (p + 1) leave again → Wait code calls frames →
      Wait code (record { todo = Awaiting into ∷ todo; variables = v } ∷ calls) (record { function = f; place = p; variables = v } ∷ frames)

-- what the calls don't hold, with the machine's stacks
pub record World : Type 0 where
  pub sites : List ℕ
  pub described : List ℕ
  pub memory : Memory
  pub seat : Seat
  pub phase : Phase
  pub printed : ℕ
  pub asked : Option Request

abbrev pub state_in : World → List state.Call → State
state_in w calls = record { calls = calls; memory = w.memory; seat = w.seat; phase = w.phase; printed = w.printed; asked = w.asked }

abbrev pub machine_in : World → List Frame → Machine
machine_in w frames = record { frames = frames; sites = w.sites; described = w.described; memory = w.memory; seat = w.seat; phase = w.phase; printed = w.printed; asked = w.asked }

-- the machine has the program's state, and stands where the program does; or among the arms of an if, of which the tests so far gave 0
pub data StandsFor (code : List FlatFunction) : State → Machine → Type 0 where
  nowhere : (w : World) → StandsFor code (state_in w []) (machine_in w [])
  stands : (w : World) (todo : List Item) (f p leave again : ℕ) (v : Variables) (calls : List state.Call) (frames : List Frame) →
      Stands (code_at code f) todo p leave again → Wait code calls frames →
      StandsFor code (state_in w (record { todo = todo; variables = v } ∷ calls)) (machine_in w (record { function = f; place = p; variables = v } ∷ frames))
  chooses : (w : World) (x : Stmt) (arms left : List (Arm Stmt)) (ss : List Stmt) (todo : List Item) (f p end leave again : ℕ) (v : Variables) (calls : List state.Call) (frames : List Frame) →
      w.asked ≡ None → out-Stmt x ≡ stmt.If arms ss → branch arms ss v w.memory ≡ branch left ss v w.memory →
      Chosen (code_at code f) left ss p end leave again → Stands (code_at code f) todo end leave again → Wait code calls frames →
      StandsFor code (state_in w (record { todo = Begun x ∷ todo; variables = v } ∷ calls)) (machine_in w (record { function = f; place = p; variables = v } ∷ frames))
