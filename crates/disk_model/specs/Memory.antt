-- What contracts see of a disk in memory.
use Rattle.std.specs.Prelude.{◌≡◌, ◌⊎◌, ℕ, ◌+◌, ◌-◌, ◌^◌, ◌≤◌, min, List, [], ◌∷◌, ◌++◌, Contains, Option, Some, None}
use Rattle.disk_model.specs.Disk.{View}
use Rattle.disk_model.specs.Files.{Change, view_of}

-- what happened to its files, the calls that are to fail, the call from which on all fail, and the counts of calls, of faults
-- and of refused growths
pub record Memory : Type 0 where
  pub changes : List Change
  pub fail : List ℕ
  pub fuse : Option ℕ
  pub calls : ℕ
  pub faults : ℕ
  pub starved : ℕ

abbrev pub memory_view : Memory → View
memory_view m = view_of m.changes

-- the fuse is blown from its number on
abbrev pub IsBlown : Option ℕ → ℕ → Type 0
IsBlown None call = ⊥
IsBlown (Some from) call = from ≤ call

-- the next call is to fail
abbrev pub IsToFail : Memory → Type 0
IsToFail m = Contains m.fail m.calls ⊎ IsBlown m.fuse m.calls

-- one call more was made, by the same plan of those that fail
pub record IsNextCall (old new : Memory) : Type 0 where
  pub calls : new.calls ≡ min (old.calls + 1) (2 ^ 64 - 1)
  pub fail : new.fail ≡ old.fail
  pub fuse : new.fuse ≡ old.fuse

-- nothing was changed, and no growth refused
pub record Stays (old new : Memory) : Type 0 where
  pub changes : new.changes ≡ old.changes
  pub starved : new.starved ≡ old.starved

-- a growth found no memory, and nothing was changed
pub record Starves (old new : Memory) : Type 0 where
  pub changes : new.changes ≡ old.changes
  pub starved : new.starved ≡ min (old.starved + 1) (2 ^ 64 - 1)

-- this change came to those before, and no growth was refused
pub record Makes (change : Change) (old new : Memory) : Type 0 where
  pub changes : new.changes ≡ old.changes ++ change ∷ []
  pub starved : new.starved ≡ old.starved
