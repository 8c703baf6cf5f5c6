-- The table of the places that have labels.
use Rattle.std.specs.Prelude.{ℕ, Bool, true, List, [], ◌∷◌, slice_set}

abbrev pub marked : List Bool → List ℕ → List Bool
marked table [] = table
marked table (k ∷ ks) = marked (slice_set table k true) ks
