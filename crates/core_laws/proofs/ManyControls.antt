-- How many controls of one kind a list has, after a push, and without its first.
use Rattle.std.proofs.Common.{◌≡◌, ℕ, ◌+◌, Bool, true, false, cond, List, [], ◌∷◌, ◌++◌, arith}
use Rattle.std.specs.Prelude.{◌==◌}
use Rattle.mpi_words.specs.declared.control.Control.{Control}
use Rattle.core_laws.specs.Invariant.{kind_of, many}

one_more : (b : Bool) (m m' u : ℕ) → m' ≡ m + u → cond b (1 + m') m' ≡ cond b (1 + m) m + u
one_more true m m' u e = omega (arith, e)
one_more false m m' u e = e

pub many-push : (k : ℕ) (c : List Control) (x : Control) → many k (c ++ x ∷ []) ≡ many k c + many k (x ∷ [])
many-push k [] x = omega arith
many-push k (y ∷ c) x = one_more (kind_of y == k) (many k c) (many k (c ++ x ∷ [])) (many k (x ∷ [])) (many-push k c x)

pub many-first : (k : ℕ) (x : Control) (c : List Control) → many k (x ∷ c) ≡ many k (x ∷ []) + many k c
many-first k x c = first (kind_of x == k) (many k c)
  where
    first : (b : Bool) (m : ℕ) → cond b (1 + m) m ≡ cond b (1 + 0) 0 + m
    first true m = omega arith
    first false m = omega arith
