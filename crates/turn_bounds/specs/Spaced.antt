-- Code in which a Step stands between one Call and the next, and before each Free.
use Rattle.std.specs.Prelude.{◌≡◌, ℕ, ◌+◌, ◌<◌, ◌≤◌, Bool, true, false, List, [], ◌∷◌, Option, Some, slice_get}
use Rattle.c_kernel.specs.declared.program.Expr.{Expr}
use Rattle.c_kernel.specs.declared.program.Place.{Place}
use Rattle.c_kernel.specs.declared.types.Extent.{Extent}
use Rattle.flat_code.specs.declared.code.FlatFunction.{FlatFunction}
use Rattle.flat_code.specs.declared.code.Site.{Site}
use Rattle.flat_code.specs.declared.code.Instr.{Instr}
use Rattle.flat_code.specs.declared.code.Instr.TheVariants.{Step, Malloc, Free, Goto, Unless, Enter}
use Rattle.flat_code.specs.Machine.{code_at, lengths_in}
use Rattle.ccift_lower.specs.Laid.{At}

-- a Step, or an Enter, behind which one stands
abbrev pub is_head : Option Instr → Bool
is_head (Some Step) = true
is_head (Some (Enter variables sites)) = true
is_head other = false

abbrev pub is_free : Option Instr → Bool
is_free (Some (Free e)) = true
is_free other = false

pub record IsSpacedCode (code : List Instr) : Type 0 where
  -- it begins with a Step, or with an Enter
  pub head : is_head (slice_get code 0) ≡ true
  -- behind an Enter stands a Step
  pub entered : (p variables : ℕ) (sites : List Site) → At code p (Enter variables sites) → At code (p + 1) Step
  -- a Free stands directly behind a Step
  pub freed : (p : ℕ) → is_free (slice_get code (p + 1)) ≡ true → At code p Step
  -- no jump leads to a Free
  pub jumped : (p to : ℕ) → At code p (Goto to) → is_free (slice_get code to) ≡ false
  pub branched : (p to : ℕ) (e : Expr) → At code p (Unless e to) → is_free (slice_get code to) ≡ false

abbrev pub IsSpaced : List FlatFunction → Type 0
IsSpaced functions = (f : ℕ) → IsSpacedCode (code_at functions f)

-- ---- objects have cells

abbrev pub HaveCells : List ℕ → Type 0
HaveCells [] = Unit {0}
HaveCells (n ∷ ns) = (1 ≤ n) × HaveCells ns

-- each variable has a cell, and so have the objects that a Malloc asks for. Of no size it gives none
pub record HasCells (functions : List FlatFunction) : Type 0 where
  pub variables : (f : ℕ) → HaveCells (lengths_in functions f)
  pub objects : (f p : ℕ) (place : Place Expr) (bytes : Expr) (each : Extent) → At (code_at functions f) p (Malloc place bytes each) → 0 < each.size → 1 ≤ each.cells
