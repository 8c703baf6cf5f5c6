-- Lists that stand for data per rank, after a write to both, and lists of one value; tests of each rank.
use Rattle.std.proofs.Common.{zero, Bool, true, false, ◌&&◌, map, ◌≡◌, ℕ, suc, ◌<◌, List, length, sym, refl, ap, ◌∙◌, subst, slice_set, get_or, ⊎_elim, arith, replicate}
use Rattle.std.proofs.lemmas.Bool.{cases_eq, cases_lt}
use Rattle.std.proofs.lemmas.List.{length-set, get_or-set_same, get_or-set_other, get_or_default, length-replicate, get_or-replicate, length-map, get_or-map}
use Rattle.core_laws.specs.Rows.{set_at}
use Rattle.core_laws.specs.Handling.{all_below}
use Rattle.core_laws.specs.Ties.{Are}
use Rattle.core_laws.proofs.Changes.{set_at-same, set_at-other}

pub are_set : {A : Type 0} (n : ℕ) (items : List A) (f : ℕ → A) (k : ℕ) (w : A) → k < n → Are n items f → Are n (slice_set items k w) (set_at f k w)
are_set n items f k w inside h = record {
  size = length-set items k w ∙ h.size;
  each = λ x d b. ⊎_elim
      (λ e. ap (λ z. get_or (slice_set items k w) z d) e ∙ get_or-set_same items k w d (omega (arith, h.size)) ∙ sym (ap (set_at f k w) e ∙ set_at-same f k w))
      (λ e. get_or-set_other items k x w d e ∙ h.each x d b ∙ sym (set_at-other f k w x e))
      (cases_eq x k);
}

-- one item is changed by a function, as it is in the model
pub are_changed : {A : Type 0} (n : ℕ) (items : List A) (f : ℕ → A) (k : ℕ) (now w : A) (g : A → A) → k < n → now ≡ get_or items k now → w ≡ g now → Are n items f → Are n (slice_set items k w) (set_at f k (g (f k)))
are_changed n items f k now w g inside is change h = subst (λ z. Are n (slice_set items k w) (set_at f k z)) (change ∙ ap g (is ∙ h.each k now inside)) (are_set n items f k w inside h)

-- every item is this value
pub are_all : {A : Type 0} (n : ℕ) (v : A) → Are n (replicate n v) (λ x. v)
are_all n v = record { size = length-replicate n v; each = λ k d b. get_or-replicate n k v d b }

-- what a list says by itself
pub are_read : {A : Type 0} (n : ℕ) (items : List A) (d : A) → length items ≡ n → Are n items (λ x. get_or items x d)
are_read n items d e = record { size = e; each = λ k y b. get_or_default items k y d (omega (arith, e)) }

-- each item is mapped
pub are_map : {A B : Type 0} (n : ℕ) (items : List A) (f : ℕ → A) (g : A → B) → Are n items f → Are n (map g items) (λ x. g (f x))
are_map n items f g h = record { size = length-map items g ∙ h.size; each = λ k d b. get_or-map g items k (f k) d (omega (arith, h.size)) ∙ ap g (h.each k (f k) b) }

-- a write of what is there
pub are_kept : {A : Type 0} (n : ℕ) (items : List A) (f : ℕ → A) (k : ℕ) (w : A) → k < n → w ≡ f k → Are n items f → Are n (slice_set items k w) f
are_kept n items f k w inside is h = record {
  size = length-set items k w ∙ h.size;
  each = λ x d b. ⊎_elim
      (λ e. ap (λ z. get_or (slice_set items k w) z d) e ∙ get_or-set_same items k w d (omega (arith, h.size)) ∙ is ∙ ap f (sym e))
      (λ e. get_or-set_other items k x w d e ∙ h.each x d b)
      (cases_eq x k);
}

pub all_below-same : (n : ℕ) (f g : ℕ → Bool) → ((k : ℕ) → k < n → f k ≡ g k) → all_below n f ≡ all_below n g
all_below-same zero f g h = refl
all_below-same (suc n) f g h = rw (h n (omega arith), all_below-same n f g (λ k b. h k (omega arith))) refl

pub all_below-fails : (n : ℕ) (f : ℕ → Bool) (r : ℕ) → r < n → f r ≡ false → all_below n f ≡ false
all_below-fails zero f r b h = absurd (omega arith)
all_below-fails (suc n) f r b h = ⊎_elim
    (λ d. rw (all_below-fails n f r d h) (both_false (f n)))
    (λ d. let e : n ≡ r = omega arith in rw (e, h) refl)
    (cases_lt r n)
  where
    both_false : (x : Bool) → (x && false) ≡ false
    both_false true = refl
    both_false false = refl
