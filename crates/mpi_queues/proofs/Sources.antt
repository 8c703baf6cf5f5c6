-- The lowest source that has a match.
use Rattle.std.proofs.Common.{◌≡◌, ℕ, ◌+◌, ◌-◌, ◌<◌, suc, Bool, true, false, List, [], ◌∷◌, position, remove, slice_index_or, slice_get, Option, Some, None, is_some, option_map, option_and_then, refl, ap, sym, ◌∙◌, arith}
use Rattle.std.specs.List.{range_with_len}
use Rattle.std.specs.Option.{option_or}
use Rattle.std.proofs.lemmas.Option.{slice_get-get_or}
use Rattle.mpi_words.specs.declared.message.Message.{Message}
use Rattle.mpi_words.specs.declared.pattern.Pattern.{Pattern}
use Rattle.mpi_words.specs.Matching.{matches}
use Rattle.mpi_queues.specs.Firsts.{take_first, taken_at, first_answer}
use Rattle.mpi_queues.specs.Pairs.{Queues, IsSquare, queue, taken_from}
use Rattle.mpi_queues.proofs.Rows.{Row, lists_of, queue_there}
use Rattle.mpi_queues.proofs.Places.{at_place, place_within}

-- the next rank and those above it
ranks_from : (from n : ℕ) → from < n → range_with_len from (n - from) ≡ from ∷ range_with_len (from + 1) (n - (from + 1))
ranks_from from n below = let e : n - from ≡ suc (n - (from + 1)) = omega arith in rw e

option_or-some : {B : Type 0} (o p : Option B) → is_some o ≡ true → option_or o p ≡ o
option_or-some None p e = cc
option_or-some (Some x) p e = refl

option_or-none : {B : Type 0} (o p : Option B) → is_some o ≡ false → option_or o p ≡ p
option_or-none None p e = refl
option_or-none (Some x) p e = cc

pub answers_here : {B : Type 0} (f : ℕ → Option B) (from n : ℕ) → from < n → is_some (f from) ≡ true → first_answer f (range_with_len from (n - from)) ≡ f from
answers_here f from n below e = ap (first_answer f) (ranks_from from n below) ∙ option_or-some (f from) _ e

pub answers_later : {B : Type 0} (f : ℕ → Option B) (from n : ℕ) → from < n → is_some (f from) ≡ false → first_answer f (range_with_len from (n - from)) ≡ first_answer f (range_with_len (from + 1) (n - (from + 1)))
answers_later f from n below e = ap (first_answer f) (ranks_from from n below) ∙ option_or-none (f from) _ e

mapped_some : {A B : Type 0} (f : A → B) (o : Option A) → is_some (option_map f o) ≡ is_some o
mapped_some f None = refl
mapped_some f (Some x) = refl

taken_some : {A : Type 0} (f : A → Bool) (xs : List A) (o : Option ℕ) → o ≡ position f xs → is_some (option_and_then (taken_at xs) o) ≡ is_some o
taken_some f xs None e = refl
taken_some f [] (Some k) e = cc
taken_some f (x ∷ xs) (Some k) e = mapped_some (λ y. record { taken = y; others = remove (x ∷ xs) k }) (slice_get (x ∷ xs) k) ∙ ap is_some (slice_get-get_or (x ∷ xs) k x (place_within f (x ∷ xs) k e))

-- a source has a match where its list has one
source_some : (q : Queues) (to : ℕ) (p : Pattern) (from : ℕ) → is_some (taken_from q to p from) ≡ is_some (position (matches p from) (queue q from to))
source_some q to p from = mapped_some _ (take_first (matches p from) (queue q from to)) ∙ ap is_some (at_place (matches p from) (queue q from to)) ∙ taken_some (matches p from) (queue q from to) _ refl

-- the same of the program's rows
pub scanned : (n : ℕ) (rows : List Row) (from to : ℕ) (row : Row) (list : List Message) (p : Pattern) (place : Option ℕ) → IsSquare n (lists_of rows) → from < n → to < n → row ≡ slice_index_or rows to row → list ≡ slice_index_or row.items from list → place ≡ position (matches p from) list → is_some (taken_from (lists_of rows) to p from) ≡ is_some place
scanned n rows from to row list p place s from_within to_within is at e = source_some (lists_of rows) to p from ∙ ap (λ l. is_some (position (matches p from) l)) (sym (queue_there n rows from to row list s from_within to_within is at)) ∙ ap is_some (sym e)
