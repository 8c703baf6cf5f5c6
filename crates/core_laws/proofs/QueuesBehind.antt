-- What stands behind the first k of a list, after a push or a pop.
use Rattle.std.proofs.Common.{◌≡◌, ℕ, zero, suc, ◌+◌, ◌<◌, ◌≤◌, List, [], ◌∷◌, ◌++◌, sym, refl, ap, ◌∙◌, subst, arith}
use Rattle.std.specs.Prelude.{length}
use Rattle.std.proofs.lemmas.Bool.{ne_eqb}
use Rattle.mpi_words.specs.declared.control.Control.{Control}
use Rattle.mpi_words.specs.declared.control.Control.TheVariants.{Request, Count, Ready, Stop, Stopped, Restored}
use Rattle.core_laws.specs.Rows.{set_at, set_pair}
use Rattle.core_laws.specs.Protocol.{Packet}
use Rattle.core_laws.specs.Invariant.{bit, on_channel, counts_on, readies_on, stoppeds_on}
use Rattle.core_laws.specs.Prompt.{behind, kind}
use Rattle.core_laws.specs.Sweeps.{of_epoch}
use Rattle.core_laws.proofs.Changes.{at_set, set_pair-here, each_push_pair, each_push_row}

-- a push of what isn't counted
pub behind-push : {X : Type 0} (f : X → ℕ) (k : ℕ) (q : List X) (x : X) → f x ≡ 0 → behind f k q ≡ 0 → behind f k (q ++ x ∷ []) ≡ 0
behind-push f zero [] x none h = omega (arith, none)
behind-push f (suc k) [] x none h = refl
behind-push f zero (y ∷ q) x none h = omega (arith, behind-push f zero q x none (omega (arith, h)), h)
behind-push f (suc k) (y ∷ q) x none h = behind-push f k q x none h

pub behind-all : {X : Type 0} (f : X → ℕ) (k : ℕ) (q : List X) → length q ≤ k → behind f k q ≡ 0
behind-all f k [] h = refl
behind-all f zero (x ∷ q) h = absurd (omega arith)
behind-all f (suc k) (x ∷ q) h = behind-all f k q (omega arith)

pub behind-more : {X : Type 0} (f : X → ℕ) (q : List X) (x : X) → behind f 0 (q ++ x ∷ []) ≡ behind f 0 q + f x
behind-more f [] x = omega arith
behind-more f (y ∷ q) x = omega (arith, behind-more f q x)

-- with nothing to take, it is what is on the channel
pub counts-behind : (c : List Control) → behind (kind 0) 0 c ≡ counts_on c
counts-behind [] = refl
counts-behind (Request l ∷ c) = omega (arith, counts-behind c)
counts-behind (Count l k ∷ c) = omega (arith, counts-behind c)
counts-behind (Ready l ∷ c) = omega (arith, counts-behind c)
counts-behind (Stop l ∷ c) = omega (arith, counts-behind c)
counts-behind (Stopped l ∷ c) = omega (arith, counts-behind c)
counts-behind (Restored ∷ c) = omega (arith, counts-behind c)

pub readies-behind : (c : List Control) → behind (kind 1) 0 c ≡ readies_on c
readies-behind [] = refl
readies-behind (Request l ∷ c) = omega (arith, readies-behind c)
readies-behind (Count l k ∷ c) = omega (arith, readies-behind c)
readies-behind (Ready l ∷ c) = omega (arith, readies-behind c)
readies-behind (Stop l ∷ c) = omega (arith, readies-behind c)
readies-behind (Stopped l ∷ c) = omega (arith, readies-behind c)
readies-behind (Restored ∷ c) = omega (arith, readies-behind c)

pub stoppeds-behind : (c : List Control) → behind (kind 3) 0 c ≡ stoppeds_on c
stoppeds-behind [] = refl
stoppeds-behind (Request l ∷ c) = omega (arith, stoppeds-behind c)
stoppeds-behind (Count l k ∷ c) = omega (arith, stoppeds-behind c)
stoppeds-behind (Ready l ∷ c) = omega (arith, stoppeds-behind c)
stoppeds-behind (Stop l ∷ c) = omega (arith, stoppeds-behind c)
stoppeds-behind (Stopped l ∷ c) = omega (arith, stoppeds-behind c)
stoppeds-behind (Restored ∷ c) = omega (arith, stoppeds-behind c)

pub packets-behind : (e : ℕ) (q : List Packet) → behind (of_epoch e) 0 q ≡ on_channel e q
packets-behind e [] = refl
packets-behind e (x ∷ q) = omega (arith, packets-behind e q)

-- The same for each pair.
pub all_push_pair : {X : Type 0} (f : X → ℕ) (n : ℕ) (k : ℕ → ℕ → ℕ) (c : ℕ → ℕ → List X) (a b : ℕ) (x : X) → f x ≡ 0
    → ((s r : ℕ) → s < n → r < n → behind f (k s r) (c s r) ≡ 0) → (s r : ℕ) → s < n → r < n → behind f (k s r) (set_pair c a b (c a b ++ x ∷ []) s r) ≡ 0
all_push_pair f n k c a b x none h s r = each_push_pair (λ s r q. s < n → r < n → behind f (k s r) q ≡ 0) c a b x h (λ old i j. behind-push f (k a b) (c a b) x none (old i j)) s r

pub all_push_row : {X : Type 0} (f : X → ℕ) (n : ℕ) (k : ℕ → ℕ → ℕ) (c : ℕ → ℕ → List X) (a : ℕ) (x : ℕ → X) → ((y : ℕ) → f (x y) ≡ 0)
    → ((s r : ℕ) → s < n → r < n → behind f (k s r) (c s r) ≡ 0) → (s r : ℕ) → s < n → r < n → behind f (k s r) (set_at c a (λ y. c a y ++ x y ∷ []) s r) ≡ 0
all_push_row f n k c a x none h s r = each_push_row (λ s r q. s < n → r < n → behind f (k s r) q ≡ 0) c a x h (λ y old i j. behind-push f (k a y) (c a y) (x y) (none y) (old i j)) s r

-- what is to be taken of the other pairs
other_pair : (k : ℕ → ℕ → ℕ) (a b s r : ℕ) → ((s ≡ a) → (r ≡ b) → ⊥) → set_pair k a b (suc (k a b)) s r ≡ k s r
other_pair k a b s r h = at_set (λ g. g r ≡ k s r) k a (set_at (k a) b (suc (k a b))) s
    (λ e. at_set (λ t. t ≡ k s r) (k a) b (suc (k a b)) r (λ d. absurd (h e d)) (λ d. ap (λ z. k z r) (sym e)))
    (λ e. refl)

-- one is taken
pub all_pop : {X : Type 0} (f : X → ℕ) (n : ℕ) (k : ℕ → ℕ → ℕ) (c : ℕ → ℕ → List X) (a b : ℕ) (x : X) (rest : List X) → c a b ≡ x ∷ rest
    → ((s r : ℕ) → s < n → r < n → behind f (set_pair k a b (suc (k a b)) s r) (c s r) ≡ 0) → (s r : ℕ) → s < n → r < n → behind f (k s r) (set_pair c a b rest s r) ≡ 0
all_pop f n k c a b x rest is h s r i j = at_set (λ g. behind f (k s r) (g r) ≡ 0) c a (set_at (c a) b rest) s
    (λ e. at_set (λ q. behind f (k s r) q ≡ 0) (c a) b rest r
    (λ d. subst (λ z. behind f (k z r) rest ≡ 0) (sym e) (subst (λ z. behind f (k a z) rest ≡ 0) (sym d) (here (subst (λ z. z < n) e i) (subst (λ z. z < n) d j))))
    (λ d. subst (λ z. behind f (k s r) (c z r) ≡ 0) e (elsewhere (λ _ g. d g))))
    (λ e. elsewhere (λ g _. e g))
  where
    here : a < n → b < n → behind f (k a b) rest ≡ 0
    here u v = subst (λ q. behind f (suc (k a b)) q ≡ 0) is (subst (λ t. behind f t (c a b) ≡ 0) (set_pair-here k a b (suc (k a b))) (h a b u v))

    elsewhere : (s ≡ a → r ≡ b → ⊥) → behind f (k s r) (c s r) ≡ 0
    elsewhere g = subst (λ t. behind f t (c s r) ≡ 0) (other_pair k a b s r g) (h s r i j)

-- none is there
pub all_none : {X : Type 0} (f : X → ℕ) (n : ℕ) (k : ℕ → ℕ → ℕ) (c : ℕ → ℕ → List X) (a b : ℕ) → (a < n → b < n → c a b ≡ [])
    → ((s r : ℕ) → s < n → r < n → behind f (set_pair k a b (suc (k a b)) s r) (c s r) ≡ 0) → (s r : ℕ) → s < n → r < n → behind f (k s r) (c s r) ≡ 0
all_none f n k c a b is h s r i j = at_set (λ g. g r ≡ set_pair k a b (suc (k a b)) s r → behind f (k s r) (c s r) ≡ 0) k a (set_at (k a) b (suc (k a b))) s
    (λ e. at_set (λ t. t ≡ set_pair k a b (suc (k a b)) s r → behind f (k s r) (c s r) ≡ 0) (k a) b (suc (k a b)) r
    (λ d _. subst (λ z. behind f (k s r) z ≡ 0) (sym (ap (λ z. c z r) e ∙ ap (λ z. c a z) d ∙ is (subst (λ z. z < n) e i) (subst (λ z. z < n) d j))) refl)
    (λ d _. elsewhere (λ _ g. d g)))
    (λ e _. elsewhere (λ g _. e g))
    refl
  where
    elsewhere : (s ≡ a → r ≡ b → ⊥) → behind f (k s r) (c s r) ≡ 0
    elsewhere g = subst (λ t. behind f t (c s r) ≡ 0) (other_pair k a b s r g) (h s r i j)

-- which kind is none of the stage's
pub kind_ready : (i l : ℕ) → (i ≡ 1 → ⊥) → kind i (Ready l) ≡ 0
kind_ready i l h = ap bit (ne_eqb i 1 h)

pub kind_stop : (i l : ℕ) → (i ≡ 2 → ⊥) → kind i (Stop l) ≡ 0
kind_stop i l h = ap bit (ne_eqb i 2 h)

pub kind_stopped : (i l : ℕ) → (i ≡ 3 → ⊥) → kind i (Stopped l) ≡ 0
kind_stopped i l h = ap bit (ne_eqb i 3 h)

pub of_other : (e : ℕ) (x : Packet) → (x.1.epoch ≡ e → ⊥) → of_epoch e x ≡ 0
of_other e x h = rw (ne_eqb x.1.epoch e h) refl
