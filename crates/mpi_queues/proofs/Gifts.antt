-- How a mailbox's arrivals are given, one after the other.
use Rattle.std.proofs.Common.{◌≡◌, ℕ, ◌+◌, ◌<◌, List, [], ◌∷◌, ◌++◌, length, take, drop, remove, slice_index_or, Option, Some, None, option_map, refl, ap, sym, ◌∙◌, add-one, ◌≤◌, append_assoc}
use Rattle.std.proofs.lemmas.List.{take_more, drop_more}
use Rattle.std.proofs.Math.ListN.{drop_of_length-le}
use Rattle.std.proofs.lemmas.Option.{slice_get_read}
use Rattle.mpi_words.specs.declared.pattern.Pattern.{Pattern}
use Rattle.mpi_queues.specs.Firsts.{Taken, after_one, taken_at}
use Rattle.mpi_queues.specs.Arrivals.{Arrival, open_after, given}

-- with these before the others
abbrev pub passed : {A : Type 0} → List A → Option (Taken A) → Option (Taken A)
passed xs o = option_map (λ t. record { taken = t.taken; others = xs ++ t.others }) o

passed_one : {A : Type 0} (xs : List A) (x : A) (o : Option (Taken A)) → passed xs (after_one x o) ≡ passed (xs ++ x ∷ []) o
passed_one xs x None = refl
passed_one xs x (Some t) = ap (λ l. Some (record { taken = t.taken; others = l })) (sym (append_assoc xs (x ∷ []) t.others))

-- what is given, by which patterns are open after the first arrival
abbrev pub given_by : Arrival → List Arrival → Option (List Pattern) → Option (Taken Arrival)
given_by a rest None = Some (record { taken = a; others = rest })
given_by a rest (Some ps) = after_one a (given ps rest)

pub given-cons : (ps : List Pattern) (a : Arrival) (rest : List Arrival) (o : Option (List Pattern)) → open_after ps a ≡ o → given ps (a ∷ rest) ≡ given_by a rest o
given-cons ps a rest o e = ap (given_by a rest) e

-- an arrival at its place among all of them
split_there : (xs : List Arrival) (at : ℕ) (a : Arrival) → at < length xs → a ≡ slice_index_or xs at a → drop at xs ≡ a ∷ drop (at + 1) xs
split_there xs at a within is = drop_more xs at a within ∙ ap (λ x. x ∷ drop (at + 1) xs) (sym is)

-- the last pattern has it
pub handed_last : (ps : List Pattern) (xs : List Arrival) (at : ℕ) (a : Arrival) → at < length xs → a ≡ slice_index_or xs at a → open_after ps a ≡ None → passed (take at xs) (given ps (drop at xs)) ≡ taken_at xs at
handed_last ps xs at a within is e =
    ap (λ l. passed (take at xs) (given ps l)) (split_there xs at a within is)
    ∙ ap (passed (take at xs)) (given-cons ps a (drop (at + 1) xs) None e)
    ∙ ap (λ n. Some (record { taken = a; others = take at xs ++ drop n xs })) (add-one at)
    ∙ sym (ap (option_map (λ x. record { taken = x; others = remove xs at })) (slice_get_read xs (length xs) at a refl within is))

-- an earlier one has it, or none
pub handed_on : (ps qs : List Pattern) (xs : List Arrival) (at : ℕ) (a : Arrival) → at < length xs → a ≡ slice_index_or xs at a → open_after ps a ≡ Some qs → passed (take at xs) (given ps (drop at xs)) ≡ passed (take (at + 1) xs) (given qs (drop (at + 1) xs))
handed_on ps qs xs at a within is e =
    ap (λ l. passed (take at xs) (given ps l)) (split_there xs at a within is)
    ∙ ap (passed (take at xs)) (given-cons ps a (drop (at + 1) xs) (Some qs) e)
    ∙ passed_one (take at xs) a (given qs (drop (at + 1) xs))
    ∙ ap (λ l. passed l (given qs (drop (at + 1) xs))) (ap (λ x. take at xs ++ x ∷ []) is ∙ sym (take_more xs at a within))

-- no arrival is left
pub handed_out : (ps : List Pattern) (xs : List Arrival) (at : ℕ) → length xs ≤ at → passed (take at xs) (given ps (drop at xs)) ≡ None
handed_out ps xs at past = ap (λ l. passed (take at xs) (given ps l)) (drop_of_length-le xs past)
