-- In one step at most one choice is made, so that a choice for all memories does as well.
use Rattle.std.proofs.Common.{◌≡◌, ℕ, Bool, false, List, [], ◌∷◌, Option, Some, None, Ok, Err, refl}
use Rattle.c_kernel.specs.declared.types.Extent.{Extent}
use Rattle.c_kernel.specs.declared.program.Action.{Action}
use Rattle.c_kernel.specs.declared.program.Action.TheVariants.{Zero, Set, Call, Malloc}
use Rattle.c_kernel.specs.declared.program.Expr.{Expr}
use Rattle.c_kernel.specs.declared.program.Function.{Function}
use Rattle.c_kernel.specs.declared.program.Place.{Place}
use Rattle.mpi_effects.specs.declared.requests.Request.{Request}
use Rattle.c_memory.specs.Memory.{Memory, cells_asked}
use Rattle.c_values.specs.Value.{Found, value_of}
use Rattle.c_meaning.specs.State.{Item, Body, Rest, Begun, Acting, Awaiting, Testing, Stepping, State, Outcome, Asks}
use Rattle.c_meaning.specs.State as state
use Rattle.c_meaning.specs.Step.{allocates, with_ok, acts, goes_on, step_in, step}

abbrev pub Choice : Type 0
Choice = Memory → ℕ → Bool

abbrev pub always : Bool → Choice
always b m n = b

given_choice : (f : Choice) (s : State) (top : state.Call) (below : List state.Call) (todo : List Item) (place : Place Expr) (asked : Option ℕ) → (b : Bool) × (allocates f s top below todo place asked ≡ allocates (always b) s top below todo place asked)
given_choice f s top below todo place None = (false, refl)
given_choice f s top below todo place (Some n) = (f s.memory n, refl)

malloc_choice : (f : Choice) (s : State) (top : state.Call) (below : List state.Call) (todo : List Item) (place : Place Expr) (each : Extent) (found : Found) → (b : Bool) × (with_ok found (λ n. allocates f s top below todo place (cells_asked n.word each)) ≡ with_ok found (λ n. allocates (always b) s top below todo place (cells_asked n.word each)))
malloc_choice f s top below todo place each (Err code) = (false, refl)
malloc_choice f s top below todo place each (Ok n) = given_choice f s top below todo place (cells_asked n.word each)

action_choice : (functions : List Function) (f : Choice) (s : State) (top : state.Call) (below : List state.Call) (todo : List Item) (a : Action) → (b : Bool) × (acts functions f s top below todo a ≡ acts functions (always b) s top below todo a)
action_choice functions f s top below todo (Zero k) = (false, refl)
action_choice functions f s top below todo (Set place value) = (false, refl)
action_choice functions f s top below todo (Call into g arguments) = (false, refl)
action_choice functions f s top below todo (Malloc place bytes each) = malloc_choice f s top below todo place each (value_of bytes top.variables s.memory)

first_choice : (functions : List Function) (f : Choice) (s : State) (top : state.Call) (below : List state.Call) (todo : List Item) → (b : Bool) × (goes_on functions f s top below todo ≡ goes_on functions (always b) s top below todo)
first_choice functions f s top below [] = (false, refl)
first_choice functions f s top below (Body ss ∷ todo) = (false, refl)
first_choice functions f s top below (Rest [] ∷ todo) = (false, refl)
first_choice functions f s top below (Rest (x ∷ xs) ∷ todo) = (false, refl)
first_choice functions f s top below (Begun x ∷ todo) = (false, refl)
first_choice functions f s top below (Acting [] ∷ todo) = (false, refl)
first_choice functions f s top below (Acting (a ∷ actions) ∷ todo) = action_choice functions f s top below (Acting actions ∷ todo) a
first_choice functions f s top below (Awaiting t ∷ todo) = (false, refl)
first_choice functions f s top below (Testing x ∷ todo) = (false, refl)
first_choice functions f s top below (Stepping x ∷ todo) = (false, refl)

newest_choice : (functions : List Function) (f : Choice) (s : State) (calls : List state.Call) → (b : Bool) × (step_in functions f s calls ≡ step_in functions (always b) s calls)
newest_choice functions f s [] = (false, refl)
newest_choice functions f s (top ∷ below) = first_choice functions f s top below top.todo

abbrev step_by : List Function → Choice → State → Option Request → Outcome
step_by functions f s asked = elim asked [ None ↦ step_in functions f s s.calls | Some q ↦ Asks q.operation s ]

asked_choice : (functions : List Function) (f : Choice) (s : State) (asked : Option Request) → (b : Bool) × (step_by functions f s asked ≡ step_by functions (always b) s asked)
asked_choice functions f s None = newest_choice functions f s s.calls
asked_choice functions f s (Some o) = (false, refl)

pub one_choice : (functions : List Function) (f : Choice) (s : State) → (b : Bool) × (step functions f s ≡ step functions (always b) s)
one_choice functions f s = asked_choice functions f s s.asked
