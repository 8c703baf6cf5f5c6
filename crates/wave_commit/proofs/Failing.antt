-- The lowest rank that fails a test.
use Rattle.std.proofs.Common.{◌≡◌, ℕ, zero, suc, ◌<◌, ◌≤◌, Bool, true, false, List, length, get_or, Some, None, sym, refl, ap, ◌∙◌, subst, ⊎_elim, arith}
use Rattle.std.proofs.lemmas.Bool.{cases_lt}
use Rattle.core_laws.specs.Handling.{all_below}
use Rattle.core_laws.specs.Ties.{Are}
use Rattle.core_laws.proofs.Tied.{all_below-same, all_below-fails}
use Rattle.wave_commit.specs.Waves.{first_failing, lowest_failing}

pub lowest_failing-at : (n : ℕ) (f : ℕ → Bool) (r : ℕ) → r < n → all_below r f ≡ true → f r ≡ false → lowest_failing n f ≡ r
lowest_failing-at zero f r b all h = absurd (omega arith)
lowest_failing-at (suc n) f r b all h = ⊎_elim
    (λ d. rw (all_below-fails n f r d h) (lowest_failing-at n f r d all h))
    (λ d. let e : r ≡ n = omega arith in rw (same e) (sym e))
    (cases_lt r n)
  where
    same : r ≡ n → all_below n f ≡ true
    same e = subst (λ x. all_below x f ≡ true) e all

pub first_failing-same : (n : ℕ) (f g : ℕ → Bool) → ((k : ℕ) → k < n → f k ≡ g k) → first_failing n f ≡ first_failing n g
first_failing-same n f g h = rw (all_below-same n f g h, lowest n h) refl
  where
    lowest : (n : ℕ) → ((k : ℕ) → k < n → f k ≡ g k) → lowest_failing n f ≡ lowest_failing n g
    lowest zero h = refl
    lowest (suc n) h = rw (all_below-same n f g (λ k b. h k (omega arith)), lowest n (λ k b. h k (omega arith))) refl

pub found : (ranks : ℕ) (flags : List Bool) (r : ℕ) → length flags ≡ ranks → r < ranks → all_below r (λ k. get_or flags k false) ≡ true → get_or flags r false ≡ false
    → (n : ℕ) (f : ℕ → Bool) → Are n flags f → Some r ≡ first_failing n f
found ranks flags r size inside all fails n f h = sym (rw (all_below-fails n f r below here) (ap Some (lowest_failing-at n f r below before here)))
  where
    below : r < n
    below = omega (arith, size, h.size)

    here : f r ≡ false
    here = sym (h.each r false below) ∙ fails

    before : all_below r f ≡ true
    before = sym (all_below-same r (λ k. get_or flags k false) f (λ k b. h.each k false (omega arith))) ∙ all

pub none_found : (ranks : ℕ) (flags : List Bool) (r : ℕ) → length flags ≡ ranks → ranks ≤ r → r ≤ ranks → all_below r (λ k. get_or flags k false) ≡ true
    → (n : ℕ) (f : ℕ → Bool) → Are n flags f → first_failing n f ≡ None
none_found ranks flags r size past inside all n f h = rw all' refl
  where
    at : r ≡ n → all_below n (λ k. get_or flags k false) ≡ true
    at e = subst (λ x. all_below x (λ k. get_or flags k false) ≡ true) e all

    all' : all_below n f ≡ true
    all' = sym (all_below-same n (λ k. get_or flags k false) f (λ k b. h.each k false b)) ∙ at (omega (arith, size, h.size))
