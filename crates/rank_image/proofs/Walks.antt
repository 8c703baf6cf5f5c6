-- Walks along lists.
use Rattle.std.proofs.Common.{◌≡◌, ◌≤◌, ◌<◌, ◌+◌, ◌^◌, ℕ, zero, suc, List, [], ◌∷◌, ◌++◌, length, drop, Option, Some, None, refl, sym, subst, arith}
use Rattle.std.specs.Prelude.{get_or, option_map}
use Rattle.std.proofs.lemmas.List.{drop_all}
use Rattle.c_memory.specs.Order.{IsRising}
use Rattle.flat_code.specs.declared.code.FlatFunction.{FlatFunction}
use Rattle.rank_image.specs.Along.{spans_along}
use Rattle.rank_image.specs.declared.sites.Way.{Way}
use Rattle.rank_image.specs.declared.sites.Way.TheVariants.{ToMark}

-- the first elements are right, and one more
pub one_more : {X : Type 0} (P : X → Type 0) (xs : List X) (i : ℕ) (x : X) → ((k : ℕ) (d : X) → k < i → P (get_or xs k d)) → x ≡ get_or xs i x → i < length xs → P x →
    (k : ℕ) (d : X) → k < i + 1 → P (get_or xs k d)
one_more P [] i x before e h here k d less = absurd (omega (arith, h))
one_more P (y ∷ xs) zero x before e h here zero d less = subst P e here
one_more P (y ∷ xs) zero x before e h here (suc k) d less = absurd (omega (arith, less))
one_more P (y ∷ xs) (suc i) x before e h here zero d less = before zero d (omega arith)
one_more P (y ∷ xs) (suc i) x before e h here (suc k) d less =
    one_more P xs i x (λ j b l. before (suc j) b (omega (arith, l))) e (omega (arith, h)) here k d (omega (arith, less))

pub rising_end : {X : Type 0} (key : X → ℕ) (xs : List X) (i last : ℕ) → length xs ≤ i → last < 2 ^ 64 → IsRising key (suc last) (drop i xs) (2 ^ 64)
rising_end key xs i last past small = let end : suc last ≤ 2 ^ 64 = omega (arith, small) in subst (λ l. IsRising key (suc last) l (2 ^ 64)) (sym (drop_all i xs past)) end

pub nothing_before : {X : Type 0} (o : Option (List X)) → option_map (λ rest. [] ++ rest) o ≡ o
nothing_before None = refl
nothing_before (Some xs) = refl

-- nothing may follow the mark
pub marks_end : (functions : List FlatFunction) (used : ℕ) (way : Way) (sites : List ℕ) (i : ℕ) → way ≡ ToMark → i < length sites → spans_along functions used way (drop i sites) ≡ None
marks_end functions used way [] i e h = absurd (omega (arith, h))
marks_end functions used way (x ∷ sites) zero e h = subst (λ w. spans_along functions used w (x ∷ sites) ≡ None) (sym e) refl
marks_end functions used way (x ∷ sites) (suc i) e h = marks_end functions used way sites i e (omega (arith, h))
