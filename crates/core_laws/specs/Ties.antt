-- When a list of values stands for data per rank.
use Rattle.std.specs.Prelude.{◌≡◌, ℕ, ◌<◌, List, length, slice_index_or}

-- each of f's first n values stands to the item at its place as P says
pub record AreBy {A B : Type 0} (P : A → B → Type 0) (n : ℕ) (items : List A) (f : ℕ → B) : Type 0 where
  pub size : length items ≡ n
  pub each : (k : ℕ) (default : A) → k < n → P (slice_index_or items k default) (f k)

-- the items are f's first n values
abbrev pub Are : {A : Type 0} → ℕ → List A → (ℕ → A) → Type 0
Are = AreBy (λ a b. a ≡ b)
