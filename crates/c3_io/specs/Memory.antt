-- What contracts see of a source and a sink in memory.
use Rattle.std.specs.Prelude.{◌≡◌, ℕ, ◌+◌, ◌-◌, ◌^◌, min, List}

-- the bytes that are left, the calls that are to fail, and the counts of calls and of faults
pub record Input : Type 0 where
  pub left : List ℕ
  pub fail : List ℕ
  pub calls : ℕ
  pub faults : ℕ

-- the bytes that went out, the calls that are to fail, and the counts of calls, of faults and of refused growths
pub record Output : Type 0 where
  pub gone : List ℕ
  pub fail : List ℕ
  pub calls : ℕ
  pub faults : ℕ
  pub starved : ℕ

-- a call more was made, by the same list of those that fail
abbrev pub IsNextCall : List ℕ → List ℕ → ℕ → ℕ → Type 0
IsNextCall old_fail new_fail before now = (new_fail ≡ old_fail) × (now ≡ min (before + 1) (2 ^ 64 - 1))
