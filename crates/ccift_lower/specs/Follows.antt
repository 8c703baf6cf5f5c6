-- One instruction of the machine, and what the program does with it.
use Rattle.std.specs.Prelude.{◌≡◌, ℕ, Bool, false, List, [], ◌∷◌, Option, Some, None}
use Rattle.c_kernel.specs.declared.program.Function.{Function}
use Rattle.mpi_effects.specs.declared.requests.Request.{Request}
use Rattle.c_memory.specs.Memory.{Memory}
use Rattle.c_meaning.specs.State.{Body, State}
use Rattle.c_meaning.specs.State as state
use Rattle.c_meaning.specs.Step.{body_of, lengths_of}
use Rattle.c_meaning.specs.Step as source
use Rattle.flat_code.specs.declared.code.FlatFunction.{FlatFunction}
use Rattle.flat_code.specs.Machine.{Machine, Outcome, Goes, Asks, Ends, code_at, lengths_in, step}
use Rattle.ccift_lower.specs.Stands.{Stands, StandsFor}

-- what the machine needs to know of the code of functions
pub record Compiled (functions : List Function) (code : List FlatFunction) : Type 0 where
  pub lengths : (f : ℕ) → lengths_of functions f ≡ lengths_in code f
  pub bodies : (f : ℕ) → (leave : ℕ) × (again : ℕ) × Stands (code_at code f) (Body (body_of functions f) ∷ []) 0 leave again

-- steps of the program's own, which begin no statement and make no choice
pub data Locals (functions : List Function) : State → State → Type 0 where
  here : (s : State) → Locals functions s s
  further : (s mid t : State) → ((refuses : Memory → ℕ → Bool) → source.step functions refuses s ≡ state.Goes false mid) → Locals functions mid t → Locals functions s t

-- both go on, ask for the same, or end alike
abbrev pub Both : List FlatFunction → state.Outcome → Outcome → Type 0
Both code (state.Goes b s) (Goes c m) = (b ≡ c) × StandsFor code s m
Both code (state.Asks o s) (Asks p m) = (o ≡ p) × (q : Request) × (s.asked ≡ Some q) × StandsFor code s m
Both code (state.Ends e) (Ends f) = e ≡ f
Both code (state.Goes b s) (Asks p m) = ⊥
Both code (state.Goes b s) (Ends f) = ⊥
Both code (state.Asks o s) (Goes c m) = ⊥
Both code (state.Asks o s) (Ends f) = ⊥
Both code (state.Ends e) (Goes c m) = ⊥
Both code (state.Ends e) (Asks p m) = ⊥

-- the program takes steps of its own, and then the machine's instruction is a jump or a test of an if, or does what the program's next step does
pub data Followed (functions : List Function) (code : List FlatFunction) (refuses : Memory → ℕ → Bool) (s : State) (m : Machine) : Type 0 where
  jumped : (t : State) (n : Machine) → Locals functions s t → step code refuses m ≡ Goes false n → StandsFor code t n → Followed functions code refuses s m
  agreed : (t : State) → Locals functions s t → Both code (source.step functions refuses t) (step code refuses m) → Followed functions code refuses s m
