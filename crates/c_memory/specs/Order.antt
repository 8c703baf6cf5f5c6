-- Lists in the order of their keys, as objects in that of their serials.
use Rattle.std.specs.Prelude.{ℕ, suc, ◌≤◌, nat_eq, if◌then◌else◌, List, [], ◌∷◌, Option, Some, None, option_map}

-- the keys rise from the first bound on, and stay below the second
abbrev pub IsRising : {X : Type 0} → (X → ℕ) → ℕ → List X → ℕ → Type 0
IsRising key low [] high = low ≤ high
IsRising key low (x ∷ xs) high = (low ≤ key x) × IsRising key (suc (key x)) xs high

-- where the first element with a key stands
abbrev pub place_of : {X : Type 0} → (X → ℕ) → List X → ℕ → Option ℕ
place_of key [] n = None
place_of key (x ∷ xs) n = if nat_eq (key x) n then Some 0 else option_map suc (place_of key xs n)
