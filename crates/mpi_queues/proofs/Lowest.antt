-- The lowest source that gives something.
use Rattle.std.proofs.Common.{◌≡◌, ℕ, zero, suc, ◌+◌, ◌<◌, ◌≤◌, Bool, false, ◌&&◌, ◌==◌, cond, List, [], ◌∷◌, length, Option, Some, None, option_map, refl, ap, sym, ◌∙◌, ⊎_elim, arith}
use Rattle.std.specs.List.{range_with_len}
use Rattle.std.specs.Option.{option_or}
use Rattle.std.proofs.lemmas.Bool.{cases_eq, ne_eqb}
use Rattle.mpi_words.specs.declared.message.Message.{Message}
use Rattle.mpi_words.specs.declared.pattern.Pattern.{Pattern}
use Rattle.mpi_words.specs.Matching.{allows_source, allows_tag, matches}
use Rattle.mpi_queues.specs.Firsts.{Taken, after_one, take_first, first_answer}
use Rattle.mpi_queues.specs.Pairs.{Queues, queue, Received, received, taken_from, taken}
use Rattle.mpi_queues.specs.Laws.{TakesLowest, IsLowest, IsNamed}

-- what the first answer over n numbers from a on says of each
abbrev FirstOf : {B : Type 0} → (ℕ → Option B) → ℕ → ℕ → Option B → Type 0
FirstOf f a n None = (k : ℕ) → a ≤ k → k < a + n → f k ≡ None
FirstOf f a n (Some x) = (k : ℕ) × (k < a + n) × (f k ≡ Some x) × ((j : ℕ) → a ≤ j → j < k → f j ≡ None)

-- none at a, and then those above it
none_and_above : {B : Type 0} (f : ℕ → Option B) (a n : ℕ) (o : Option B) → f a ≡ None → FirstOf f (a + 1) n o → FirstOf f a (suc n) o
none_and_above f a n None e h = λ k above below. ⊎_elim (λ s. ap f s ∙ e) (λ s. h k (omega (arith, s, above)) (omega (arith, below))) (cases_eq k a)
none_and_above f a n (Some x) e h = (h.0, omega (arith, h.1), h.2, λ j above below. ⊎_elim (λ s. ap f s ∙ e) (λ s. h.3 j (omega (arith, s, above)) below) (cases_eq j a))

-- the answer at a, or what comes above it
here_or_above : {B : Type 0} (f : ℕ → Option B) (a n : ℕ) (o p : Option B) → f a ≡ o → FirstOf f (a + 1) n p → FirstOf f a (suc n) (option_or o p)
here_or_above f a n None p e h = none_and_above f a n p e h
here_or_above f a n (Some x) p e h = (a, omega arith, e, λ j above below. absurd (omega (arith, above, below)))

first_of : {B : Type 0} (f : ℕ → Option B) (a n : ℕ) → FirstOf f a n (first_answer f (range_with_len a n))
first_of f a zero = λ k above below. absurd (omega (arith, above, below))
first_of f a (suc n) = here_or_above f a n (f a) (first_answer f (range_with_len (a + 1) n)) refl (first_of f (a + 1) n)

-- a source gives its own messages
own_source : (q : Queues) (from to : ℕ) (o : Option (Taken Message)) (r : Received) → option_map (received q from to) o ≡ Some r → from ≡ r.source
own_source q from to None r e = cc
own_source q from to (Some t) r e = cc

lowest_by : (q : Queues) (to : ℕ) (p : Pattern) (o : Option Received) → FirstOf (taken_from q to p) 0 (length q) o → TakesLowest q to p o
lowest_by q to p None h = λ from below. h from (omega arith) (omega (arith, below))
lowest_by q to p (Some r) h =
    let same : h.0 ≡ r.source = own_source q h.0 to (take_first (matches p h.0) (queue q h.0 to)) r h.2 in
    (omega (arith, same, h.1), ap (taken_from q to p) (sym same) ∙ h.2, λ from below. h.3 from (omega arith) (omega (arith, same, below)))

pub is_lowest : IsLowest
is_lowest q to p = lowest_by q to p (taken q to p) (first_of (taken_from q to p) 0 (length q))

-- nothing is taken where nothing passes
none_passes : {A : Type 0} (f : A → Bool) (xs : List A) → ((x : A) → f x ≡ false) → take_first f xs ≡ None
none_passes f [] h = refl
none_passes f (x ∷ xs) h = ap (λ b. cond b (Some (record { taken = x; others = xs })) (after_one x (take_first f xs))) (h x) ∙ ap (after_one x) (none_passes f xs h)

pub is_named : IsNamed
is_named q to named from p source other =
    let refused : (m : Message) → matches p from m ≡ false = λ m. ap (λ o. allows_source o from && (p.context == m.context) && allows_tag p.tag m.tag) source ∙ ap (λ b. b && (p.context == m.context) && allows_tag p.tag m.tag) (ne_eqb named from (λ e. other (sym e))) in
    ap (option_map (received q from to)) (none_passes (matches p from) (queue q from to) refused)
