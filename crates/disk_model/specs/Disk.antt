-- Numbered files: what a read gives, and what a stop may leave of them between two syncs.
use Rattle.std.specs.Prelude.{◌≡◌, ◌≢◌, ◌⊎◌, ℕ, ◌+◌, ◌<◌, ◌≤◌, max, List, [], ◌++◌, length, take, drop}

-- the bytes of each file
abbrev pub Contents : Type 0
Contents = ℕ → List ℕ

-- What is meant by a disk. Of a file, what a read gives and what a stop now may leave; and what a stop at some moment since
-- another might have left of all files. A moment is a number that doesn't fall.
pub record View : Type 1 where
  pub files : ℕ
  pub seen : ℕ → List ℕ
  pub may_leave : ℕ → List ℕ → Type 0
  pub moment : ℕ
  pub left_since : ℕ → Contents → Type 0

-- A stop now may leave these contents. Files are independent of each other.
abbrev pub Leaves : View → Contents → Type 0
Leaves v c = (f : ℕ) → f < v.files → v.may_leave f (c f)

-- a stop leaves of this file what a read gives and nothing else
abbrev pub IsStable : View → ℕ → Type 0
IsStable v file = (b : List ℕ) → v.may_leave file b → b ≡ v.seen file

-- new is old with these bytes at this place
abbrev pub Holds : List ℕ → ℕ → List ℕ → List ℕ → Type 0
Holds old at bytes new = new ≡ take at old ++ bytes ++ drop (at + length bytes) old

-- after a write of n bytes that is cut short: any bytes in the range and past the old end, the same elsewhere
pub record Torn (at n : ℕ) (old new : List ℕ) : Type 0 where
  pub before : take at new ≡ take at old
  pub after : drop (at + n) new ≡ drop (at + n) old
  pub no_shorter : length old ≤ length new
  pub no_longer : length new ≤ max (length old) (at + n)

-- after a cut that is cut short: the front stays, and behind it are any bytes, of some length from n on
pub record Cut (n : ℕ) (old new : List ℕ) : Type 0 where
  pub front : take n new ≡ take n old
  pub no_longer : length new ≤ length old
  pub least : (n ≤ length new) ⊎ (length new ≡ length old)

-- after a call that changes no byte
abbrev pub Same : List ℕ → List ℕ → Type 0
Same old new = new ≡ old

-- What a view is by itself.
pub record IsView (files : ℕ) (v : View) : Type 0 where
  pub same_files : v.files ≡ files
  pub seen_left : (f : ℕ) → f < v.files → v.may_leave f (v.seen f)
  pub counts_now : (t : ℕ) (c : Contents) → t ≤ v.moment → Leaves v c → v.left_since t c
  pub only_now : (c : Contents) → v.left_since v.moment c → Leaves v c

-- Time goes on: a stop since t might have left what it might have left before, or what it may leave now.
pub record Elapses (old new : View) : Type 0 where
  pub files : new.files ≡ old.files
  pub later : old.moment ≤ new.moment
  pub nothing_else : (t : ℕ) (c : Contents) → t ≤ old.moment → new.left_since t c → old.left_since t c ⊎ Leaves new c
  pub keeps : (t : ℕ) (c : Contents) → t ≤ old.moment → old.left_since t c → new.left_since t c

-- A call took this step on one file, or a part of it, and left the others.
pub record Steps (file : ℕ) (step : List ℕ → List ℕ → Type 0) (old new : View) : Type 0 where
  pub time : Elapses old new
  pub seen : step (old.seen file) (new.seen file)
  pub left : (b : List ℕ) → new.may_leave file b → (a : List ℕ) × old.may_leave file a × step a b
  pub others : (g : ℕ) → g ≢ file → new.seen g ≡ old.seen g
  pub others_left : (g : ℕ) (b : List ℕ) → g ≢ file → new.may_leave g b → old.may_leave g b

-- the view of a disk that tells nothing
abbrev pub untold : View
untold = record { files = 0; seen = λ f. []; may_leave = λ f b. Unit {0}; moment = 0; left_since = λ t c. Unit {0} }
