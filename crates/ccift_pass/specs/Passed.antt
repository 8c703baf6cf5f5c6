-- What code is passed to.
use Rattle.std.specs.Prelude.{ℕ, zero, suc, ◌+◌, ◌-◌, min, List, [], ◌∷◌, ◌++◌, length, get_or, nat_eq, if◌then◌else◌}
use Rattle.flat_code.specs.declared.code.Code.{Code}
use Rattle.flat_code.specs.declared.code.FlatFunction.{FlatFunction}
use Rattle.flat_code.specs.declared.code.Site.{Site}
use Rattle.flat_code.specs.declared.code.Instr.{Instr}
use Rattle.flat_code.specs.declared.code.Instr.TheVariants.{Step, Zero, Set, Call, Malloc, Free, Goto, Unless, Return, Mark, Push, Pop, Leave, Enter, Print, Mpi}

-- how many instructions an instruction is passed to, and how many sites it has
abbrev pub width : Instr → ℕ
width (Call into f arguments) = 3
width (Mark site) = 3
width (Return e) = 2
width other = 1

abbrev pub sites : Instr → ℕ
sites (Call into f arguments) = 1
sites (Mark site) = 1
sites other = 0

-- the instructions, where a jump's target is moved, and a Call or a Mark has this site
abbrev pub passes : (ℕ → ℕ) → ℕ → Instr → List Instr
passes to site (Call into f arguments) = Push site ∷ Call into f arguments ∷ Pop ∷ []
passes to site (Mark none) = Push site ∷ Mark site ∷ Pop ∷ []
passes to site (Return e) = Leave ∷ Return e ∷ []
passes to site (Goto p) = Goto (to p) ∷ []
passes to site (Unless e p) = Unless e (to p) ∷ []
passes to site other = other ∷ []

abbrev pub all_passed : (ℕ → ℕ) → ℕ → List Instr → List Instr
all_passed to site [] = []
all_passed to site (i ∷ is) = passes to site i ++ all_passed to (site + sites i) is

-- where what the instruction at a place is passed to begins
abbrev pub widths : List Instr → ℕ → ℕ
widths code zero = 0
widths [] (suc p) = 0
widths (i ∷ is) (suc p) = width i + widths is p

abbrev pub moved : List Instr → ℕ → ℕ
moved code p = 1 + widths code p

-- those places in order, with that of the end
abbrev pub later_targets : ℕ → List Instr → List ℕ
later_targets place [] = []
later_targets place (i ∷ is) = (place + width i) ∷ later_targets (place + width i) is

abbrev pub table : List Instr → List ℕ
table code = 1 ∷ later_targets 1 code

-- the same from a table of them, of which the last stands for all that follow
abbrev pub target_in : List ℕ → ℕ → ℕ
target_in targets p = get_or targets (min p (length targets - 1)) 0

-- the site of the instruction at a place, where the function's first is given
abbrev pub site_at : List Instr → ℕ → ℕ → ℕ
site_at code site zero = site
site_at [] site (suc p) = site
site_at (i ∷ is) site (suc p) = site_at is (site + sites i) p

-- the sites, each with the place of its Call or Mark
abbrev pub site_places : ℕ → ℕ → List Instr → List Site
site_places place site [] = []
site_places place site (Call into f arguments ∷ is) = record { number = site; place = place + 1 } ∷ site_places (place + 3) (site + 1) is
site_places place site (Mark none ∷ is) = record { number = site; place = place + 1 } ∷ site_places (place + 3) (site + 1) is
site_places place site (i ∷ is) = site_places (place + width i) site is

-- the place of a site
abbrev pub place_in : List Site → ℕ → ℕ
place_in [] site = 0
place_in (x ∷ xs) site = if nat_eq x.number site then x.place else place_in xs site

abbrev pub passed_code : ℕ → ℕ → List Instr → List Instr
passed_code variables site code = Enter variables (site_places 1 site code) ∷ all_passed (moved code) site code

abbrev pub sites_in : List Instr → ℕ
sites_in [] = 0
sites_in (i ∷ is) = sites i + sites_in is

abbrev pub passed_function : ℕ → FlatFunction → FlatFunction
passed_function site f = record f { code = passed_code (length f.variables) site f.code }

-- all functions, with sites from a number on
abbrev pub passed_from : ℕ → List FlatFunction → List FlatFunction
passed_from site [] = []
passed_from site (f ∷ fs) = passed_function site f ∷ passed_from (site + sites_in f.code) fs

abbrev pub passed : Code → Code
passed c = record c { functions = passed_from 1 c.functions }
