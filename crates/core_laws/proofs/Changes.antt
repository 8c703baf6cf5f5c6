-- An event changes one rank, and what is kept of the others stands.
use Rattle.std.proofs.Common.{◌≡◌, ℕ, List, [], ◌∷◌, ◌++◌, sym, refl, ap, ◌∙◌, subst, ⊎_elim}
use Rattle.std.proofs.lemmas.Bool.{cases_eq, eq-eqb, ne_eqb}
use Rattle.core_laws.specs.Rows.{set_at, set_pair}

pub set_at-same : {A : Type 0} → (f : ℕ → A) (k : ℕ) (v : A) → set_at f k v k ≡ v
unfolding set_at
set_at-same f k v = rw (eq-eqb k k refl) refl

pub set_at-other : {A : Type 0} → (f : ℕ → A) (k : ℕ) (v : A) (x : ℕ) → (x ≡ k → ⊥) → set_at f k v x ≡ f x
unfolding set_at
set_at-other f k v x h = rw (ne_eqb x k h) refl

-- what holds at each place, after a change at one
pub each_set : {A : Type 0} (P : ℕ → A → Type 0) (f : ℕ → A) (k : ℕ) (v : A) → P k v → ((x : ℕ) → (x ≡ k → ⊥) → P x (f x)) → (x : ℕ) → P x (set_at f k v x)
each_set P f k v here others x = ⊎_elim (λ e. subst (λ y. P y (set_at f k v y)) (sym e) (subst (λ a. P k a) (sym (set_at-same f k v)) here)) (λ h. subst (λ a. P x a) (sym (set_at-other f k v x h)) (others x h)) (cases_eq x k)

pub set_pair-other_row : {A : Type 0} → (f : ℕ → ℕ → A) (a b : ℕ) (v : A) (x y : ℕ) → (x ≡ a → ⊥) → set_pair f a b v x y ≡ f x y
set_pair-other_row f a b v x y h = ap (λ g. g y) (set_at-other f a (set_at (f a) b v) x h)

pub set_pair-row : {A : Type 0} → (f : ℕ → ℕ → A) (a b : ℕ) (v : A) (y : ℕ) → set_pair f a b v a y ≡ set_at (f a) b v y
set_pair-row f a b v y = ap (λ g. g y) (set_at-same f a (set_at (f a) b v))

-- what holds at each pair, after a change at one
pub each_set_pair : {A : Type 0} (P : ℕ → ℕ → A → Type 0) (f : ℕ → ℕ → A) (a b : ℕ) (v : A) → P a b v → ((x y : ℕ) → P x y (f x y)) → (x y : ℕ) → P x y (set_pair f a b v x y)
each_set_pair P f a b v here others x y = each_set (λ x g. P x y (g y)) f a (set_at (f a) b v) (each_set (λ y c. P a y c) (f a) b v here (λ y h. others a y) y) (λ x h. others x y) x

-- A change at rank k whose queues change in k's row alone: first each pair from k, then each pair to k.
pub row_frame : {A B : Type 0} (P : ℕ → ℕ → A → A → B → Type 0) (f : ℕ → A) (k : ℕ) (v : A) (q q' : ℕ → ℕ → B)
    → ((s r : ℕ) → P s r (f s) (f r) (q s r))
    → ((s r : ℕ) → (s ≡ k → ⊥) → q' s r ≡ q s r)
    → ((r : ℕ) (w : A) → P k r (f k) w (q k r) → P k r v w (q' k r))
    → ((s : ℕ) (w : A) (b : B) → P s k w (f k) b → P s k w v b)
    → (s r : ℕ) → P s r (set_at f k v s) (set_at f k v r) (q' s r)
row_frame P f k v q q' old same from to s r = each_set (λ y a. P s y (set_at f k v s) a (q' s y)) f k v (to s (set_at f k v s) (q' s k) (half k)) (λ y h. half y) r
  where
    half : (y : ℕ) → P s y (set_at f k v s) (f y) (q' s y)
    half y = each_set (λ x a. P x y a (f y) (q' x y)) f k v (from y (f y) (old k y)) (λ x h. subst (λ b. P x y (f x) (f y) b) (sym (same x y h)) (old x y)) s

-- A change at rank k whose queues change in k's column alone.
pub column_frame : {A B : Type 0} (P : ℕ → ℕ → A → A → B → Type 0) (f : ℕ → A) (k : ℕ) (v : A) (q q' : ℕ → ℕ → B)
    → ((s r : ℕ) → P s r (f s) (f r) (q s r))
    → ((s r : ℕ) → (r ≡ k → ⊥) → q' s r ≡ q s r)
    → ((s : ℕ) (w : A) → P s k w (f k) (q s k) → P s k w v (q' s k))
    → ((r : ℕ) (w : A) (b : B) → P k r (f k) w b → P k r v w b)
    → (s r : ℕ) → P s r (set_at f k v s) (set_at f k v r) (q' s r)
column_frame P f k v q q' old same to from s r = each_set (λ x a. P x r a (set_at f k v r) (q' x r)) f k v (from r (set_at f k v r) (q' k r) (half k)) (λ x h. half x) s
  where
    half : (x : ℕ) → P x r (f x) (set_at f k v r) (q' x r)
    half x = each_set (λ y a. P x y (f x) a (q' x y)) f k v (to x (f x) (old x k)) (λ y h. subst (λ b. P x y (f x) (f y) b) (sym (same x y h)) (old x y)) r

-- the same for two functions that change at one place
pub each_set_both : {A B : Type 0} (P : ℕ → A → B → Type 0) (f : ℕ → A) (g : ℕ → B) (k : ℕ) (v : A) (w : B) → P k v w → ((x : ℕ) → (x ≡ k → ⊥) → P x (f x) (g x)) → (x : ℕ) → P x (set_at f k v x) (set_at g k w x)
each_set_both P f g k v w here others x = ⊎_elim (λ e. subst (λ y. P y (set_at f k v y) (set_at g k w y)) (sym e) (subst (λ a. P k a (set_at g k w k)) (sym (set_at-same f k v)) (subst (λ b. P k v b) (sym (set_at-same g k w)) here))) (λ h. subst (λ a. P x a (set_at g k w x)) (sym (set_at-other f k v x h)) (subst (λ b. P x (f x) b) (sym (set_at-other g k w x h)) (others x h))) (cases_eq x k)

-- The same at one place.
pub at_set : {A : Type 0} (P : A → Type 0) (f : ℕ → A) (k : ℕ) (v : A) (x : ℕ) → (x ≡ k → P v) → ((x ≡ k → ⊥) → P (f x)) → P (set_at f k v x)
at_set P f k v x here other = ⊎_elim (λ e. subst (λ y. P (set_at f k v y)) (sym e) (subst P (sym (set_at-same f k v)) (here e))) (λ h. subst P (sym (set_at-other f k v x h)) (other h)) (cases_eq x k)

pub at_set_both : {A B : Type 0} (P : A → B → Type 0) (f : ℕ → A) (g : ℕ → B) (k : ℕ) (v : A) (w : B) (x : ℕ) → (x ≡ k → P v w) → ((x ≡ k → ⊥) → P (f x) (g x)) → P (set_at f k v x) (set_at g k w x)
at_set_both P f g k v w x here other = ⊎_elim
    (λ e. subst (λ y. P (set_at f k v y) (set_at g k w y)) (sym e) (subst (λ a. P a (set_at g k w k)) (sym (set_at-same f k v)) (subst (λ b. P v b) (sym (set_at-same g k w)) (here e))))
    (λ h. subst (λ a. P a (set_at g k w x)) (sym (set_at-other f k v x h)) (subst (λ b. P (f x) b) (sym (set_at-other g k w x h)) (other h)))
    (cases_eq x k)

pub set_pair-here : {A : Type 0} → (f : ℕ → ℕ → A) (a b : ℕ) (v : A) → set_pair f a b v a b ≡ v
set_pair-here f a b v = set_pair-row f a b v b ∙ set_at-same (f a) b v

pub set_pair-column : {A : Type 0} → (f : ℕ → ℕ → A) (a b : ℕ) (v : A) (x : ℕ) → set_pair f a b v x b ≡ set_at (λ z. f z b) a v x
set_pair-column f a b v x = ⊎_elim
    (λ e. subst (λ z. set_pair f a b v z b ≡ set_at (λ z. f z b) a v z) (sym e) (set_pair-here f a b v ∙ sym (set_at-same (λ z. f z b) a v)))
    (λ h. set_pair-other_row f a b v x b h ∙ sym (set_at-other (λ z. f z b) a v x h))
    (cases_eq x a)

pub set_pair-other_column : {A : Type 0} → (f : ℕ → ℕ → A) (a b : ℕ) (v : A) (x y : ℕ) → (y ≡ b → ⊥) → set_pair f a b v x y ≡ f x y
set_pair-other_column f a b v x y h = ⊎_elim
    (λ e. subst (λ z. set_pair f a b v z y ≡ f z y) (sym e) (set_pair-row f a b v y ∙ set_at-other (f a) b v y h))
    (λ g. set_pair-other_row f a b v x y g)
    (cases_eq x a)

-- One more at the end of one list, or of a whole row of lists, and one less at the front of one.
pub push_pair : {A : Type 0} (P : List A → Type 0) (c : ℕ → ℕ → List A) (a b : ℕ) (x : A) (s r : ℕ) → ((l : List A) → P l → P (l ++ x ∷ [])) → P (c s r) → P (set_pair c a b (c a b ++ x ∷ []) s r)
push_pair P c a b x s r step h = at_set (λ g. P (g r)) c a (set_at (c a) b (c a b ++ x ∷ [])) s
    (λ e. at_set P (c a) b (c a b ++ x ∷ []) r (λ d. step (c a b) (subst (λ z. P (c a z)) d (subst (λ z. P (c z r)) e h))) (λ d. subst (λ z. P (c z r)) e h))
    (λ e. h)

pub push_row : {A : Type 0} (P : List A → Type 0) (c : ℕ → ℕ → List A) (a : ℕ) (x : ℕ → A) (s r : ℕ) → ((l : List A) → P l → P (l ++ x r ∷ [])) → P (c s r) → P (set_at c a (λ y. c a y ++ x y ∷ []) s r)
push_row P c a x s r step h = at_set (λ g. P (g r)) c a (λ y. c a y ++ x y ∷ []) s (λ e. step (c a r) (subst (λ z. P (c z r)) e h)) (λ e. h)

pub pop_pair : {A : Type 0} (P : List A → Type 0) (c : ℕ → ℕ → List A) (a b : ℕ) (x : A) (rest : List A) (s r : ℕ) → c a b ≡ x ∷ rest → (P (x ∷ rest) → P rest) → P (c s r) → P (set_pair c a b rest s r)
pop_pair P c a b x rest s r is step h = at_set (λ g. P (g r)) c a (set_at (c a) b rest) s
    (λ e. at_set P (c a) b rest r (λ d. step (subst P is (subst (λ z. P (c a z)) d (subst (λ z. P (c z r)) e h)))) (λ d. subst (λ z. P (c z r)) e h))
    (λ e. h)

-- What holds of each pair's list, after a push or a pop.
pub each_push_pair : {A : Type 0} (P : ℕ → ℕ → List A → Type 0) (c : ℕ → ℕ → List A) (a b : ℕ) (x : A) → ((s r : ℕ) → P s r (c s r)) → (P a b (c a b) → P a b (c a b ++ x ∷ [])) → (s r : ℕ) → P s r (set_pair c a b (c a b ++ x ∷ []) s r)
each_push_pair P c a b x h step s r = each_set_pair P c a b (c a b ++ x ∷ []) (step (h a b)) h s r

pub each_push_row : {A : Type 0} (P : ℕ → ℕ → List A → Type 0) (c : ℕ → ℕ → List A) (a : ℕ) (x : ℕ → A) → ((s r : ℕ) → P s r (c s r)) → ((r : ℕ) → P a r (c a r) → P a r (c a r ++ x r ∷ [])) → (s r : ℕ) → P s r (set_at c a (λ y. c a y ++ x y ∷ []) s r)
each_push_row P c a x h step s r = each_set (λ s g. P s r (g r)) c a (λ y. c a y ++ x y ∷ []) (step r (h a r)) (λ y _. h y r) s

pub at_set_pair_both : {A B : Type 0} (P : A → B → Type 0) (f : ℕ → ℕ → A) (g : ℕ → ℕ → B) (a b : ℕ) (v : A) (w : B) (x y : ℕ) → (x ≡ a → y ≡ b → P v w) → P (f x y) (g x y) → P (set_pair f a b v x y) (set_pair g a b w x y)
at_set_pair_both P f g a b v w x y here other = at_set_both (λ h k. P (h y) (k y)) f g a (set_at (f a) b v) (set_at (g a) b w) x
    (λ e. at_set_both P (f a) (g a) b v w y (λ d. here e d) (λ d. subst (λ z. P (f z y) (g z y)) e other))
    (λ e. other)

pub at_set_pair : {A : Type 0} (P : A → Type 0) (f : ℕ → ℕ → A) (a b : ℕ) (v : A) (x y : ℕ) → (x ≡ a → y ≡ b → P v) → P (f x y) → P (set_pair f a b v x y)
at_set_pair P f a b v x y here other = at_set (λ h. P (h y)) f a (set_at (f a) b v) x
    (λ e. at_set P (f a) b v y (λ d. here e d) (λ d. subst (λ z. P (f z y)) e other))
    (λ e. other)
