-- Lists for each pair of ranks, after a push.
use Rattle.std.specs.Prelude.{ℕ, List, [], ◌∷◌, ◌++◌, slice_set, slice_index_or}

abbrev pub with_more : {A : Type 0} → List (List (List A)) → ℕ → ℕ → A → List (List (List A))
with_more rows from to x = slice_set rows from (slice_set (slice_index_or rows from []) to (slice_index_or (slice_index_or rows from []) to [] ++ x ∷ []))
