-- When a machine stands in passed code where another stands in the code.
use Rattle.std.specs.Prelude.{◌≡◌, ◌⊎◌, Bool, false, ℕ, zero, ◌+◌, List, [], ◌∷◌, ◌++◌, Option, Some, None, slice_get}
use Rattle.c_kernel.specs.declared.program.Expr.{Expr}
use Rattle.c_kernel.specs.declared.program.Target.{Target}
use Rattle.c_values.specs.declared.value.Variables.{Variables}
use Rattle.c_memory.specs.Memory.{Memory}
use Rattle.flat_code.specs.declared.code.FlatFunction.{FlatFunction}
use Rattle.flat_code.specs.declared.code.Site.{Site}
use Rattle.flat_code.specs.declared.code.Instr.{Instr}
use Rattle.flat_code.specs.declared.code.Instr.TheVariants.{Step, Call, Return, Mark, Push, Pop, Leave, Enter}
use Rattle.flat_code.specs.Machine.{Frame, Machine, Outcome, Goes, Asks, Ends, code_at, lengths_in, descriptors, step}
use Rattle.ccift_lower.specs.Laid.{At}
use Rattle.ccift_pass.specs.Passed.{width, passes, place_in}
use Rattle.ccift_lower.specs.Stands.{World, machine_in}

abbrev pub Has : List Instr → ℕ → List Instr → Type 0
Has code p [] = Unit {0}
Has code p (i ∷ is) = At code p i × Has code (p + 1) is

abbrev pub HasSite : Instr → Type 0
HasSite (Call into f arguments) = Unit {0}
HasSite (Mark site) = Unit {0}
HasSite other = ⊥

-- what lowered code consists of
abbrev pub IsPlain : Instr → Type 0
IsPlain (Push site) = ⊥
IsPlain Pop = ⊥
IsPlain Leave = ⊥
IsPlain (Enter variables sites) = ⊥
IsPlain other = Unit {0}

-- what code is passed to, by places: where each instruction moves, and its site
pub record Moves (c d : List Instr) : Type 0 where
  pub move : ℕ → ℕ
  pub site : ℕ → ℕ
  pub start : move 0 ≡ 1
  pub variables : ℕ
  pub list : List Site
  pub enter : At d 0 (Enter variables list)
  pub fetch : (p : ℕ) (i : Instr) → At c p i → Has d (move p) (passes move (site p) i)
  pub next : (p : ℕ) (i : Instr) → At c p i → move p + width i ≡ move (p + 1)
  pub plain : (p : ℕ) (i : Instr) → At c p i → IsPlain i
  pub found : (p : ℕ) (i : Instr) → At c p i → HasSite i → place_in list (site p) ≡ move p + 1
  pub past : (p : ℕ) → slice_get c p ≡ None → slice_get d (move p) ≡ None

-- code of a function that isn't there
abbrev pub missing_code : List Instr
missing_code = Step ∷ Return None ∷ []

-- the functions of passed code, by their numbers: where one isn't there, both have the same code
pub record Passes (code passed : List FlatFunction) : Type 0 where
  pub lengths : (f : ℕ) → lengths_in code f ≡ lengths_in passed f
  pub moves : (f : ℕ) → Moves (code_at code f) (code_at passed f) ⊎ ((code_at code f ≡ missing_code) × (code_at passed f ≡ missing_code))

-- the passed place for a place, with what the function has on the stacks
pub data Spot (c d : List Instr) (m : Moves c d) (own : List ℕ) : ℕ → ℕ → List ℕ → List ℕ → Type 0 where
  entering : Spot c d m own 0 0 [] []
  between : (p : ℕ) → Spot c d m own p (m.move p) [] own
  at_call : (p : ℕ) (into : Option Target) (g : ℕ) (arguments : List Expr) → At c p (Call into g arguments) → Spot c d m own p (m.move p + 1) (m.site p ∷ []) own
  at_mark : (p n : ℕ) → At c p (Mark n) → Spot c d m own p (m.move p + 1) (m.site p ∷ []) own
  popping : (p q site : ℕ) → At d q Pop → q + 1 ≡ m.move p → Spot c d m own p q (site ∷ []) own
  leaving : (p : ℕ) (e : Option Expr) → At c p (Return e) → Spot c d m own p (m.move p + 1) [] []

-- the calls below stand at their Calls in both, with their sites and descriptors
pub data Paired (code passed : List FlatFunction) : List Frame → List Frame → List ℕ → List ℕ → Type 0 where
  none : Paired code passed [] [] [] []
  pair : (f p : ℕ) (v : Variables) (into : Option Target) (g : ℕ) (arguments : List Expr) (frames others : List Frame) (sites described : List ℕ) (m : Moves (code_at code f) (code_at passed f)) → At (code_at code f) p (Call into g arguments) → Paired code passed frames others sites described →
      Paired code passed (record { function = f; place = p; variables = v } ∷ frames) (record { function = f; place = m.move p + 1; variables = v } ∷ others) (m.site p ∷ sites) (descriptors v ++ described)

-- the machine on passed code stands for the machine on the code
pub data PassedTo (code passed : List FlatFunction) : Machine → Machine → Type 0 where
  nowhere : (w : World) → PassedTo code passed (machine_in w []) (machine_in (record w { sites = []; described = [] }) [])
  passes_by : (w : World) (f p q : ℕ) (v : Variables) (pushed own : List ℕ) (frames others : List Frame) (sites described : List ℕ) (m : Moves (code_at code f) (code_at passed f)) →
      Spot (code_at code f) (code_at passed f) m (descriptors v) p q pushed own → Paired code passed frames others sites described →
      PassedTo code passed (machine_in w (record { function = f; place = p; variables = v } ∷ frames)) (machine_in (record w { sites = pushed ++ sites; described = own ++ described }) (record { function = f; place = q; variables = v } ∷ others))
  missing : (w : World) (f p : ℕ) (v : Variables) (frames others : List Frame) (sites described : List ℕ) →
      code_at code f ≡ missing_code → code_at passed f ≡ missing_code → Paired code passed frames others sites described →
      PassedTo code passed (machine_in w (record { function = f; place = p; variables = v } ∷ frames)) (machine_in (record w { sites = sites; described = described }) (record { function = f; place = p; variables = v } ∷ others))

-- both go on, ask for the same, or end alike
abbrev pub Agree : (Machine → Machine → Type 0) → Outcome → Outcome → Type 0
Agree R (Goes b m) (Goes c n) = (b ≡ c) × R m n
Agree R (Asks o m) (Asks p n) = (o ≡ p) × R m n
Agree R (Ends e) (Ends f) = e ≡ f
Agree R (Goes b m) (Asks p n) = ⊥
Agree R (Goes b m) (Ends f) = ⊥
Agree R (Asks o m) (Goes c n) = ⊥
Agree R (Asks o m) (Ends f) = ⊥
Agree R (Ends e) (Goes c n) = ⊥
Agree R (Ends e) (Asks p n) = ⊥

-- an instruction on passed code: one that the code doesn't have, or the code's
pub data PassesOn (code passed : List FlatFunction) (r : Memory → ℕ → Bool) (m n : Machine) : Type 0 where
  stutters : (t : Machine) → step passed r n ≡ Goes false t → PassedTo code passed m t → PassesOn code passed r m n
  agrees : Agree (PassedTo code passed) (step code r m) (step passed r n) → PassesOn code passed r m n
