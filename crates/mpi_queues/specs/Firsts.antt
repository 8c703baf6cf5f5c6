-- First answers over a list.
use Rattle.std.specs.Prelude.{ℕ, Bool, List, [], ◌∷◌, if◌then◌else◌, slice_get, remove, Option, Some, None, option_map}
use Rattle.std.specs.Option.{option_or}

-- an element that was taken out of a list, and the others in order
pub record Taken (A : Type 0) : Type 0 where
  pub taken : A
  pub others : List A

-- with one more before the others
abbrev pub after_one : {A : Type 0} → A → Option (Taken A) → Option (Taken A)
after_one x None = None
after_one x (Some t) = Some (record { taken = t.taken; others = x ∷ t.others })

-- the first that passes the test is taken out
abbrev pub take_first : {A : Type 0} → (A → Bool) → List A → Option (Taken A)
take_first f [] = None
take_first f (x ∷ xs) = if f x then Some (record { taken = x; others = xs }) else after_one x (take_first f xs)

-- the answer of the first that has one
abbrev pub first_answer : {A B : Type 0} → (A → Option B) → List A → Option B
first_answer f [] = None
first_answer f (x ∷ xs) = option_or (f x) (first_answer f xs)

-- the element at a place is taken out, if there is one
abbrev pub taken_at : {A : Type 0} → List A → ℕ → Option (Taken A)
taken_at xs at = option_map (λ x. record { taken = x; others = remove xs at }) (slice_get xs at)
