-- Taking out the first is taking out at its place.
use Rattle.std.proofs.Common.{◌≡◌, ℕ, suc, ◌+◌, ◌<◌, Bool, true, false, not, cond, nat_lt, List, [], ◌∷◌, length, position, remove, slice_get, slice_index_or, Option, Some, None, IsSome, IfSome, OnSome, option_map, option_and_then, refl, ap, sym, ◌∙◌, arith}
use Rattle.std.proofs.lemmas.Bool.Decides.{nat_tests}
use Rattle.std.proofs.lemmas.List.Quantifiers.{position-Some}
use Rattle.std.proofs.lemmas.Option.{slice_get_read}
use Rattle.mpi_queues.specs.Firsts.{Taken, after_one, take_first, taken_at}

next_place : (b : Bool) (p n : ℕ) → cond (nat_lt (cond (not b) (1 + p) 0) (suc n)) (Some (cond (not b) (1 + p) 0)) None ≡ cond b (Some 0) (option_map suc (cond (nat_lt p n) (Some p) None))
next_place true p n = grind (arith, nat_tests)
next_place false p n = grind (arith, nat_tests)

position-cons : {A : Type 0} (f : A → Bool) (x : A) (xs : List A) → position f (x ∷ xs) ≡ cond (f x) (Some 0) (option_map suc (position f xs))
position-cons f x xs = next_place (f x) _ (length xs)

after_place : {A : Type 0} (x : A) (xs : List A) (k : ℕ) (o : Option A) → after_one x (option_map (λ y. record { taken = y; others = remove xs k }) o) ≡ option_map (λ y. record { taken = y; others = remove (x ∷ xs) (suc k) }) o
after_place x xs k None = refl
after_place x xs k (Some y) = refl

after_places : {A : Type 0} (x : A) (xs : List A) (o : Option ℕ) → after_one x (option_and_then (taken_at xs) o) ≡ option_and_then (taken_at (x ∷ xs)) (option_map suc o)
after_places x xs None = refl
after_places x xs (Some k) = after_place x xs k (slice_get xs k)

front_or_later : {A : Type 0} (b : Bool) (x : A) (xs : List A) (t : Option (Taken A)) (o : Option ℕ) → t ≡ option_and_then (taken_at xs) o → cond b (Some (record { taken = x; others = xs })) (after_one x t) ≡ option_and_then (taken_at (x ∷ xs)) (cond b (Some 0) (option_map suc o))
front_or_later true x xs t o e = refl
front_or_later false x xs t o e = ap (after_one x) e ∙ after_places x xs o

pub at_place : {A : Type 0} (f : A → Bool) (xs : List A) → take_first f xs ≡ option_and_then (taken_at xs) (position f xs)
at_place f [] = refl
at_place f (x ∷ xs) = front_or_later (f x) x xs (take_first f xs) (position f xs) (at_place f xs) ∙ ap (option_and_then (taken_at (x ∷ xs))) (sym (position-cons f x xs))

-- what stands at a place is what is taken out there
pub removed_there : {A : Type 0} (xs rest : List A) (k : ℕ) (x : A) → k < length xs → x ≡ slice_index_or xs k x → rest ≡ remove xs k → Some (record { taken = x; others = rest }) ≡ taken_at xs k
removed_there xs rest k x within is others = ap (λ l. Some (record { taken = x; others = l })) others ∙ sym (ap (option_map (λ y. record { taken = y; others = remove xs k })) (slice_get_read xs (length xs) k x refl within is))

-- where there is a first, its place is in the list
pub place_within : {A : Type 0} (f : A → Bool) (xs : List A) (k : ℕ) → Some k ≡ position f xs → k < length xs
place_within f [] k e = cc
place_within f (x ∷ xs) k e = (position-Some f (x ∷ xs) k x (sym e)).0

-- the first is what was removed at its place
pub first_removed : {A : Type 0} (f : A → Bool) (xs rest : List A) (k : ℕ) (r : Option A) → Some k ≡ position f xs → (k < length xs → IsSome r) → IfSome r (λ x. x ≡ slice_index_or xs k x) → OnSome r (rest ≡ remove xs k) → option_map (λ x. record { taken = x; others = rest }) r ≡ take_first f xs
first_removed f xs rest k None e there is others = let impossible : false ≡ true = there (place_within f xs k e) in cc
first_removed f xs rest k (Some x) e there is others = removed_there xs rest k x (place_within f xs k e) is others ∙ ap (option_and_then (taken_at xs)) e ∙ sym (at_place f xs)
