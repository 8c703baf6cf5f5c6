-- Restart mode: a machine comes back to a mark along its sites, and gets back there what was saved.
use Rattle.std.specs.Prelude.{◌≡◌, ℕ, zero, suc, ◌+◌, ◌≤◌, nat_eq, if◌then◌else◌, List, [], ◌∷◌, ◌++◌, length, drop, map, reverse, slice_get, slice_index_or, Option, Some, None, Result, Ok, Err}
use Rattle.c_kernel.specs.declared.program.Expr.{Expr}
use Rattle.c_kernel.specs.declared.program.Target.{Target}
use Rattle.mpi_effects.specs.declared.seat.Phase.{Phase}
use Rattle.c_values.specs.Variables.{variables_from}
use Rattle.c_memory.specs.Memory.{Memory, Object, enter, total}
use Rattle.flat_code.specs.declared.code.Code.{Code}
use Rattle.flat_code.specs.declared.code.FlatFunction.{FlatFunction}
use Rattle.flat_code.specs.declared.code.Site.{Site}
use Rattle.flat_code.specs.declared.code.Instr.{Instr}
use Rattle.flat_code.specs.declared.code.Instr.TheVariants.{Call, Mark, Enter}
use Rattle.flat_code.specs.Machine.{Frame, Machine, code_at, lengths_in, instr_at, descriptors, start}

-- ---- going back along sites

-- a machine, and the sites that its position stack has yet to name, the outermost first
pub record Restarting : Type 0 where
  pub machine : Machine
  pub left : List ℕ

-- before main's Enter, with these sites, the outermost first
abbrev pub restarting : Code → ℕ → ℕ → List ℕ → Restarting
restarting c rank ranks sites = record { machine = record (start c rank ranks) { sites = reverse sites }; left = sites }

-- the place that an Enter has for a site
abbrev pub place_named : List Site → ℕ → Option ℕ
place_named [] site = None
place_named (x ∷ xs) site = if nat_eq x.number site then Some x.place else place_named xs site

-- Enter jumps to the site that is named next
abbrev pub jumps : Machine → Frame → List Frame → List ℕ → Option ℕ → Option Restarting
jumps m top below left None = None
jumps m top below left (Some place) = Some (record { machine = record m { frames = record top { place = place } ∷ below; described = descriptors top.variables ++ m.described }; left = left })

-- a Call evaluates nothing: its function's variables are zeros
abbrev pub reenters : List FlatFunction → Machine → List ℕ → ℕ → Result Memory ℕ → Option Restarting
reenters functions m left f (Err code) = None
reenters functions m left f (Ok memory) = Some (record {
  machine = record m { frames = record { function = f; place = 0; variables = variables_from m.memory.next (length (lengths_in functions f)) } ∷ m.frames; memory = memory };
  left = left;
})

abbrev pub enters_again : Machine → Frame → List Frame → List ℕ → List Site → Option Restarting
enters_again m top below [] sites = None
enters_again m top below (site ∷ left) sites = jumps m top below left (place_named sites site)

abbrev pub reacts : List FlatFunction → Machine → Frame → List Frame → List ℕ → Option Instr → Option Restarting
reacts functions m top below left (Some (Enter variables sites)) = enters_again m top below left sites
reacts functions m top below left (Some (Call into f arguments)) = reenters functions m left f (enter m.memory (lengths_in functions f))
reacts functions m top below left other = None

abbrev pub reenter_in : List FlatFunction → Machine → List ℕ → List Frame → Option Restarting
reenter_in functions m left [] = None
reenter_in functions m left (top ∷ below) = reacts functions m top below left (instr_at functions top)

-- one instruction, an Enter or a Call. There is no other
abbrev pub reenter : List FlatFunction → Restarting → Option Restarting
reenter functions r = reenter_in functions r.machine r.left r.machine.frames

-- after so many of them
abbrev pub Reenters : List FlatFunction → ℕ → Restarting → Restarting → Type 0
Reenters functions zero r t = r ≡ t
Reenters functions (suc n) r t = (mid : Restarting) × (reenter functions r ≡ Some mid) × Reenters functions n mid t

abbrev pub instr_here : List FlatFunction → List Frame → Option Instr
instr_here functions [] = None
instr_here functions (top ∷ below) = instr_at functions top

-- the next instruction is a mark
pub record IsAtMark (functions : List FlatFunction) (m : Machine) : Type 0 where
  pub site : ℕ
  pub mark : instr_here functions m.frames ≡ Some (Mark site)

-- ---- sites that lead to a mark

-- a call under way: its function, and the place of its Call or Mark
pub record Stage : Type 0 where
  pub function : ℕ
  pub place : ℕ

abbrev pub instr_on : List FlatFunction → Stage → Option Instr
instr_on functions s = slice_get (code_at functions s.function) s.place

-- a function's code begins with an Enter that has this place for a site
pub record IsPlaceOf (functions : List FlatFunction) (site : ℕ) (s : Stage) : Type 0 where
  pub variables : ℕ
  pub sites : List Site
  pub enter : slice_get (code_at functions s.function) 0 ≡ Some (Enter variables sites)
  pub named : place_named sites site ≡ Some s.place

-- the stack has room for a function's frame, where so many of its 8,192 cells are in use
abbrev pub HasRoom : List FlatFunction → ℕ → ℕ → Type 0
HasRoom functions used f = used + 1 + total (lengths_in functions f) ≤ 8192

-- sites lead from a function, where so many cells are in use, through Calls to a Mark at these stages
pub data LeadsAt (functions : List FlatFunction) : ℕ → ℕ → List ℕ → List Stage → Type 0 where
  to_mark : (used site n : ℕ) (s : Stage) → HasRoom functions used s.function → IsPlaceOf functions site s → instr_on functions s ≡ Some (Mark n) → LeadsAt functions used s.function (site ∷ []) (s ∷ [])
  by_call : (used site g : ℕ) (s : Stage) (into : Option Target) (arguments : List Expr) (sites : List ℕ) (stages : List Stage) → HasRoom functions used s.function → IsPlaceOf functions site s → instr_on functions s ≡ Some (Call into g arguments) →
      LeadsAt functions (used + 1 + total (lengths_in functions s.function)) g sites stages → LeadsAt functions used s.function (site ∷ sites) (s ∷ stages)

-- sites lead from main through Calls to a Mark
pub record LeadsTo (c : Code) (sites : List ℕ) : Type 0 where
  pub stages : List Stage
  pub leads : LeadsAt c.functions 0 c.main sites stages

-- ---- the mark

abbrev pub passed_mark : List Frame → List Frame
passed_mark [] = []
passed_mark (top ∷ below) = record top { place = top.place + 1 } ∷ below

-- after a mark whose operation was done
abbrev pub past_mark : Machine → Machine
past_mark m = record m { frames = passed_mark m.frames }

-- what is saved of a machine, with its sites, the outermost first
pub record Saved : Type 0 where
  pub sites : List ℕ
  pub variables : List Object
  pub heap : List Object
  pub next : ℕ
  pub asked : ℕ
  pub phase : Phase
  pub printed : ℕ

abbrev pub saved_of : Machine → Saved
saved_of m = record { sites = reverse m.sites; variables = m.memory.variables; heap = m.memory.heap; next = m.memory.next; asked = m.memory.asked; phase = m.phase; printed = m.printed }

-- the serials of variables, the newest first
abbrev pub newest_serials : List Object → List ℕ
newest_serials variables = reverse (map (λ o. o.serial) variables)

-- the first serial of a call whose variables are so many of the newest
abbrev pub first_among : List ℕ → ℕ → ℕ
first_among serials zero = 0
first_among serials (suc n) = slice_index_or serials n 0

-- each call's variables have the serials that were saved
abbrev pub numbered : List ℕ → List Frame → List Frame
numbered serials [] = []
numbered serials (top ∷ below) = record top { variables = record { first = first_among serials top.variables.count; count = top.variables.count } } ∷ numbered (drop top.variables.count serials) below

-- the Mark in restart mode puts back what was saved, and ends restart mode
abbrev pub put_back : Saved → Restarting → Machine
put_back s r = record r.machine {
  frames = passed_mark (numbered (newest_serials s.variables) r.machine.frames);
  described = newest_serials s.variables;
  memory = record r.machine.memory { variables = s.variables; heap = s.heap; next = s.next; asked = s.asked };
  phase = s.phase;
  printed = s.printed;
}
