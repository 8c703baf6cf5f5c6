-- Runs of calls: what a stop at any moment of a run leaves.
use Rattle.std.specs.Prelude.{◌≡◌, ◌≢◌, ◌⊎◌, ℕ, ◌≤◌, List}
use Rattle.disk_model.specs.Disk.{Contents, View, Leaves}

-- A stop at any moment since old leaves contents that have P.
pub record LeavesOnly (old new : View) (P : Contents → Type 0) : Type 0 where
  pub files : new.files ≡ old.files
  pub later : old.moment ≤ new.moment
  pub each : (c : Contents) → new.left_since old.moment c → P c
  -- for a run that began earlier
  pub before : (t : ℕ) (c : Contents) → t ≤ old.moment → new.left_since t c → old.left_since t c ⊎ P c

-- Contents that a stop might have left, but for one file, which has changed by R.
pub record DiffersIn (file : ℕ) (R : List ℕ → List ℕ → Type 0) (v : View) (c : Contents) : Type 0 where
  pub was : Contents
  pub left : Leaves v was
  pub others : (g : ℕ) → g ≢ file → c g ≡ was g
  pub changed : R (was file) (c file)

-- Some calls on one file change it by R at each moment, and the others stay.
pub record Touches (file : ℕ) (R : List ℕ → List ℕ → Type 0) (old new : View) : Type 0 where
  pub run : LeavesOnly old new (DiffersIn file R old)
  pub seen : R (old.seen file) (new.seen file)
  pub left : (b : List ℕ) → new.may_leave file b → (a : List ℕ) × old.may_leave file a × R a b
  pub others : (g : ℕ) → g ≢ file → new.seen g ≡ old.seen g
  pub others_left : (g : ℕ) (b : List ℕ) → g ≢ file → new.may_leave g b → old.may_leave g b

-- Some calls that change no bytes: a stop at any moment leaves what it might have left at first.
pub record Keeps (old new : View) : Type 0 where
  pub run : LeavesOnly old new (Leaves old)
  pub seen : (f : ℕ) → new.seen f ≡ old.seen f
  pub left : (f : ℕ) (b : List ℕ) → new.may_leave f b → old.may_leave f b
