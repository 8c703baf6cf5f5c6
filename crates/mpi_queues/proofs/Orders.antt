-- What a mailbox gives depends on the order of arrivals alone.
use Rattle.std.proofs.Common.{◌≡◌, ℕ, Bool, true, false, not, cond, nat_lt, if◌then◌else◌, List, [], ◌∷◌, ◌++◌, map, Option, Some, None, option_map, refl, ap, sym, ◌∙◌, append_assoc}
use Rattle.mpi_words.specs.declared.pattern.Pattern.{Pattern}
use Rattle.mpi_queues.specs.Firsts.{Taken, after_one, take_first}
use Rattle.mpi_queues.specs.Arrivals.{Arrival, fits, still_open, open_after, given}
use Rattle.mpi_queues.specs.Order.{Use, Arrive, Take, arrivals_of, Gift, gifts, all_given}
use Rattle.mpi_queues.specs.Laws.{IsFirstMatch, IsGivenForGood, IsGivenAtTheEnd, IsByOrderAlone}
use Rattle.mpi_queues.proofs.Gifts.{given_by, given-cons}

-- a single pattern is open until an arrival fits it
single_open : (p : Pattern) (b : Bool) → still_open (p ∷ []) (cond {A = Option ℕ} (nat_lt (cond (not b) 1 0) 1) (Some (cond (not b) 1 0)) None) ≡ (if b then None else Some (p ∷ []))
single_open p true = refl
single_open p false = refl

single_given : (a : Arrival) (rest : List Arrival) (p : Pattern) (b : Bool) → given (p ∷ []) rest ≡ take_first (fits p) rest → given_by a rest (if b then None else Some (p ∷ [])) ≡ (if b then Some (record { taken = a; others = rest }) else after_one a (take_first (fits p) rest))
single_given a rest p true e = refl
single_given a rest p false e = ap (after_one a) e

pub first_match : IsFirstMatch
first_match p [] = refl
first_match p (a ∷ rest) = given-cons (p ∷ []) a rest _ (single_open p (fits p a)) ∙ single_given a rest p (fits p a) (first_match p rest)

-- with these after the others
abbrev followed : List Arrival → Option (Taken Arrival) → Option (Taken Arrival)
followed later o = option_map (λ t. record { taken = t.taken; others = t.others ++ later }) o

abbrev GivesForGood : List Arrival → List Arrival → Type 0
GivesForGood rest later = (ps : List Pattern) (t : Taken Arrival) → given ps rest ≡ Some t → given ps (rest ++ later) ≡ followed later (Some t)

one_passed : (a : Arrival) (rest later : List Arrival) (ps : List Pattern) (t : Taken Arrival) (o : Option (Taken Arrival)) → GivesForGood rest later → given ps rest ≡ o → after_one a o ≡ Some t → after_one a (given ps (rest ++ later)) ≡ followed later (Some t)
one_passed a rest later ps t None h g e = cc
one_passed a rest later ps t (Some s) h g e = ap (after_one a) (h ps s g) ∙ ap (followed later) e

one_before : (a : Arrival) (rest later : List Arrival) (o : Option (List Pattern)) (t : Taken Arrival) → GivesForGood rest later → given_by a rest o ≡ Some t → given_by a (rest ++ later) o ≡ followed later (Some t)
one_before a rest later None t h e = ap (followed later) e
one_before a rest later (Some ps) t h e = one_passed a rest later ps t (given ps rest) h refl e

for_good : (arrivals later : List Arrival) → GivesForGood arrivals later
for_good [] later ps t e = cc
for_good (a ∷ rest) later ps t e = one_before a rest later (open_after ps a) t (for_good rest later) e

pub given_for_good : IsGivenForGood
given_for_good ps arrivals later t e = for_good arrivals later ps t e

-- the gifts of a take and of what follows it, by what it gives
abbrev gifts_by : List Pattern → List Arrival → List Use → Option (Taken Arrival) → List Gift
gifts_by ps box uses None = gifts box uses
gifts_by ps box uses (Some t) = record { patterns = ps; arrival = t.taken } ∷ gifts t.others uses

abbrev given_then : List (List Pattern) → Option (Taken Arrival) → Option (List Arrival)
given_then rest None = None
given_then rest (Some t) = option_map (λ as_well. t.taken ∷ as_well) (all_given t.others rest)

abbrev GivenAtTheEnd : List Arrival → List Arrival → List Gift → Type 0
GivenAtTheEnd box later gs = all_given (box ++ later) (map (λ (g : Gift). g.patterns) gs) ≡ Some (map (λ (g : Gift). g.arrival) gs)

after_take : (ps : List Pattern) (box : List Arrival) (uses : List Use) (o : Option (Taken Arrival)) → ((b : List Arrival) → GivenAtTheEnd b (arrivals_of uses) (gifts b uses)) → given ps box ≡ o → GivenAtTheEnd box (arrivals_of uses) (gifts_by ps box uses o)
after_take ps box uses None h e = h box
after_take ps box uses (Some t) h e = ap (given_then (map (λ (g : Gift). g.patterns) (gifts t.others uses))) (for_good box (arrivals_of uses) ps t e) ∙ ap (option_map (λ as_well. t.taken ∷ as_well)) (h t.others)

pub given_at_the_end : IsGivenAtTheEnd
given_at_the_end box [] = refl
given_at_the_end box (Arrive a ∷ uses) = ap (λ l. all_given l (map (λ (g : Gift). g.patterns) (gifts (box ++ a ∷ []) uses))) (sym (append_assoc box (a ∷ []) (arrivals_of uses))) ∙ given_at_the_end (box ++ a ∷ []) uses
given_at_the_end box (Take ps ∷ uses) = after_take ps box uses (given ps box) (λ b. given_at_the_end b uses) refl

pub by_order_alone : IsByOrderAlone
by_order_alone uses others same_arrivals same_takes =
    let e = given_at_the_end [] uses in
    let f = given_at_the_end [] others in
    let both : Some (map (λ (g : Gift). g.arrival) (gifts [] uses)) ≡ Some (map (λ (g : Gift). g.arrival) (gifts [] others)) = cc in
    cc
