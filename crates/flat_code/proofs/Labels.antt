-- The table of labels tells what is_target says.
use Rattle.std.proofs.Common.{◌≡◌, ℕ, zero, suc, ◌<◌, List, [], ◌∷◌, ◌++◌, refl, ap, sym, ◌∙◌, length, arith, rules, ◌+◌, drop, get_or}
use Rattle.std.proofs.lemmas.List.{drop_more}
use Rattle.std.specs.Prelude.{Bool, true, false, ◌||◌, nat_eq, Option, Some, None, flat_map, option_map, replicate, slice_get, slice_set}
use Rattle.std.specs.List.{list_any}
use Rattle.flat_code.specs.declared.code.Instr.{Instr}
use Rattle.flat_code.specs.Text.{is_target, targets}
use Rattle.flat_code.specs.Labels.{marked}

pub marked_append : (table : List Bool) (ks js : List ℕ) → marked table (ks ++ js) ≡ marked (marked table ks) js
marked_append table [] js = refl
marked_append table (k ∷ ks) js = marked_append (slice_set table k true) ks js

pub next_marked : (code : List Instr) (at : ℕ) (d : Instr) (table : List Bool) → at < length code → marked (marked table (targets (get_or code at d))) (flat_map targets (drop (at + 1) code)) ≡ marked table (flat_map targets (drop at code))
next_marked code at d table less =
    sym (ap (λ l. marked table (flat_map targets l)) (drop_more code at d less) ∙ marked_append table (targets (get_or code at d)) (flat_map targets (drop (at + 1) code)))

or_assoc : (a b c : Bool) → (a || b) || c ≡ a || (b || c)
or_assoc true b c = refl
or_assoc false b c = refl

or_swap : (a b c : Bool) → a || (b || c) ≡ (b || a) || c
or_swap true true c = refl
or_swap true false c = refl
or_swap false true c = refl
or_swap false false c = refl

same : (o : Option Bool) → o ≡ option_map (λ b. false || b) o
same None = refl
same (Some c) = refl

both : (f g : Bool) (o : Option Bool) → option_map (λ b. f || b) (option_map (λ b. g || b) o) ≡ option_map (λ b. (g || f) || b) o
both f g None = refl
both f g (Some c) = ap Some (or_swap f g c)

nat_eq_suc : (k : ℕ) → nat_eq (suc k) 0 ≡ false
nat_eq_suc k = search rules

nat_eq_zero : (k : ℕ) → nat_eq 0 (suc k) ≡ false
nat_eq_zero k = search rules

nat_eq_sucs : (k j : ℕ) → nat_eq (suc k) (suc j) ≡ nat_eq k j
nat_eq_sucs k j = search rules

-- a place of a table in which one place gets true
set_one : (table : List Bool) (j k : ℕ) → slice_get (slice_set table j true) k ≡ option_map (λ b. nat_eq k j || b) (slice_get table k)
set_one [] zero k = refl
set_one [] (suc j) k = refl
set_one (b ∷ table) zero zero = refl
set_one (b ∷ table) zero (suc k) = rw (nat_eq_suc k) (same (slice_get table k))
set_one (b ∷ table) (suc j) zero = rw (nat_eq_zero j) refl
set_one (b ∷ table) (suc j) (suc k) = rw (nat_eq_sucs k j) (set_one table j k)

-- and in which several do
set_all : (ks : List ℕ) (table : List Bool) (k : ℕ) → slice_get (marked table ks) k ≡ option_map (λ b. list_any (nat_eq k) ks || b) (slice_get table k)
set_all [] table k = same (slice_get table k)
set_all (j ∷ ks) table k =
    set_all ks (slice_set table j true) k
    ∙ ap (option_map (λ b. list_any (nat_eq k) ks || b)) (set_one table j k)
    ∙ both (list_any (nat_eq k) ks) (nat_eq k j) (slice_get table k)

any-append : (f : ℕ → Bool) (xs ys : List ℕ) → list_any f (xs ++ ys) ≡ list_any f xs || list_any f ys
any-append f [] ys = refl
any-append f (x ∷ xs) ys = ap (λ b. f x || b) (any-append f xs ys) ∙ sym (or_assoc (f x) (list_any f xs) (list_any f ys))

any_target : (code : List Instr) (k : ℕ) → list_any (nat_eq k) (flat_map targets code) ≡ is_target code k
any_target [] k = refl
any_target (i ∷ code) k = any-append (nat_eq k) (targets i) (flat_map targets code) ∙ ap (λ b. list_any (nat_eq k) (targets i) || b) (any_target code k)

or_false : (b : Bool) → b || false ≡ b
or_false true = refl
or_false false = refl

unmarked : (n k : ℕ) → k < n → slice_get (replicate n false) k ≡ Some false
unmarked zero k less = elim less [ ]
unmarked (suc n) zero less = refl
unmarked (suc n) (suc k) less = unmarked n k (omega (arith, less))

pub all_marked : (code : List Instr) (table : List Bool) (k : ℕ) → table ≡ marked (replicate (length code) false) (flat_map targets code) → k < length code → slice_get table k ≡ Some (is_target code k)
all_marked code table k is less =
    ap (λ t. slice_get t k) is
    ∙ set_all (flat_map targets code) (replicate (length code) false) k
    ∙ ap (option_map (λ b. list_any (nat_eq k) (flat_map targets code) || b)) (unmarked (length code) k less)
    ∙ ap Some (or_false (list_any (nat_eq k) (flat_map targets code)) ∙ any_target code k)
