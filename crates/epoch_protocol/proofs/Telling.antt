-- What was told, rank by rank, against what has come.
use Rattle.std.proofs.Common.{◌≡◌, ℕ, ◌<◌, ◌≤◌, true, false, List, length, get_or, Option, None, sym, ap, ◌∙◌, subst, arith}
use Rattle.core_laws.specs.Handling.{all_below, is_told}
use Rattle.core_laws.specs.Ties.{Are}
use Rattle.core_laws.proofs.Tied.{all_below-same, all_below-fails}

same : (n : ℕ) (told : List (Option ℕ)) (old : List ℕ) (its : ℕ → Option ℕ) (come : ℕ → ℕ) → Are n told its → Are n old come → (x : ℕ) → x < n → is_told (get_or told x None) (get_or old x 0) ≡ is_told (its x) (come x)
same n told old its come h g x b = ap (λ t. is_told t (get_or old x 0)) (h.each x None b) ∙ ap (λ k. is_told (its x) k) (g.each x 0 b)

pub one_untold : (ranks : ℕ) (told : List (Option ℕ)) (old : List ℕ) (r : ℕ) (t : Option ℕ) (k : ℕ) → length told ≡ ranks → r < ranks → t ≡ get_or told r None → k ≡ get_or old r 0 → is_told t k ≡ false
    → (n : ℕ) (its : ℕ → Option ℕ) (come : ℕ → ℕ) → Are n told its → Are n old come → false ≡ all_below n (λ x. is_told (its x) (come x))
one_untold ranks told old r t k size inside at at' fails n its come h g = sym (all_below-fails n (λ x. is_told (its x) (come x)) r below (sym (same n told old its come h g r below) ∙ ap (λ x. is_told x (get_or old r 0)) (sym at) ∙ ap (is_told t) (sym at') ∙ fails))
  where
    below : r < n
    below = omega (arith, size, h.size)

pub all_are_told : (ranks : ℕ) (told : List (Option ℕ)) (old : List ℕ) (r : ℕ) → length told ≡ ranks → ranks ≤ r → r ≤ ranks → all_below r (λ x. is_told (get_or told x None) (get_or old x 0)) ≡ true
    → (n : ℕ) (its : ℕ → Option ℕ) (come : ℕ → ℕ) → Are n told its → Are n old come → true ≡ all_below n (λ x. is_told (its x) (come x))
all_are_told ranks told old r size past inside all n its come h g = sym (sym (all_below-same n (λ x. is_told (get_or told x None) (get_or old x 0)) (λ x. is_told (its x) (come x)) (same n told old its come h g)) ∙ at (omega (arith, size, h.size)))
  where
    at : r ≡ n → all_below n (λ x. is_told (get_or told x None) (get_or old x 0)) ≡ true
    at e = subst (λ m. all_below m (λ x. is_told (get_or told x None) (get_or old x 0)) ≡ true) e all
