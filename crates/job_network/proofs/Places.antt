-- The queue of a pair, and what a push and a pop leave there.
use Rattle.std.proofs.Common.{◌≡◌, ℕ, ◌<◌, List, [], ◌∷◌, ◌++◌, length, sym, refl, ap, ◌∙◌, subst, slice_set, get_or, replicate, true, false, Option, None, Some}
use Rattle.std.specs.Prelude.{is_some, IfSome, IfNone}
use Rattle.std.proofs.lemmas.Bool.{false≢true}
use Rattle.std.proofs.lemmas.Option.{same_Some}
use Rattle.std.proofs.lemmas.List.{get_or_default, get_or-replicate, length-replicate}
use Rattle.core_laws.specs.Rows.{set_pair}
use Rattle.core_laws.specs.Ties.{Are}
use Rattle.core_laws.specs.CoreTies.{Pairs}
use Rattle.core_laws.proofs.Tied.{are_all}
use Rattle.job_network.specs.Queues.{with_more}
use Rattle.core_laws.proofs.CoreTied.{pairs_set, pairs_at, pairs_changed}

abbrev nothing : {A : Type 0} → ℕ → ℕ → List A
nothing s r = []

pub none_there : {A : Type 0} (n : ℕ) → Pairs {A = List A} n (replicate n (replicate n [])) (λ s r. [])
none_there {A} n = record {
  size = length-replicate n (replicate n []);
  each = λ k d b. subst (λ row. Are n row (nothing {A = A} k)) (sym (get_or-replicate n k (replicate n []) d b)) (are_all n []);
}

-- a row that was read at a place is the sender's
there : {A : Type 0} (n at a b : ℕ) (rows : List (List (List A))) (row : List (List A)) (f : ℕ → ℕ → List A) → at ≡ a → row ≡ get_or rows at row → a < n → b < n → Pairs n rows f → get_or row b [] ≡ f a b
there n at a b rows row f same is i j h = ap (λ z. get_or z b []) (is ∙ ap (λ z. get_or rows z row) same) ∙ pairs_at n rows f a b row [] i j h

put : {A : Type 0} (n at a b : ℕ) (rows : List (List (List A))) (row new : List (List A)) (f : ℕ → ℕ → List A) (l : List A) → at ≡ a → row ≡ get_or rows at row → a < n → b < n → Pairs n rows f → new ≡ slice_set row b l → Pairs n (slice_set rows at new) (set_pair f a b l)
put n at a b rows row new f l same is i j h e = subst (λ z. Pairs n (slice_set rows z new) (set_pair f a b l)) (sym same)
    (subst (λ z. Pairs n (slice_set rows a z) (set_pair f a b l)) (sym (e ∙ ap (λ z. slice_set z b l) (is ∙ ap (λ z. get_or rows z row) same))) (pairs_set n rows f a b row l i j h))

-- a row that was read at a place, after a push
pub pushed : {A : Type 0} (at a b : ℕ) (rows : List (List (List A))) (row new : List (List A)) (x : A) → at ≡ a → row ≡ get_or rows at row → a < length rows → new ≡ slice_set row b (get_or row b [] ++ x ∷ []) → slice_set rows at new ≡ with_more rows a b x
pushed at a b rows row new x same is i e = let here : row ≡ get_or rows a [] = is ∙ ap (λ z. get_or rows z row) same ∙ get_or_default rows a row [] i in
    ap (λ z. slice_set rows z new) same ∙ ap (slice_set rows a) (e ∙ ap (λ z. slice_set z b (get_or z b [] ++ x ∷ [])) here)

pub pairs_more : {A : Type 0} (n : ℕ) (rows new : List (List (List A))) (f : ℕ → ℕ → List A) (a b : ℕ) (x : A) → a < n → b < n → Pairs n rows f → new ≡ with_more rows a b x → Pairs n new (set_pair f a b (f a b ++ x ∷ []))
pairs_more n rows new f a b x i j h e = subst (λ z. Pairs n z (set_pair f a b (f a b ++ x ∷ []))) (sym e) (pairs_changed n rows f a b [] [] (λ l. l ++ x ∷ []) i j h)

pub popped : {A : Type 0} (n at a b : ℕ) (rows : List (List (List A))) (row new : List (List A)) (f : ℕ → ℕ → List A) (x : A) → at ≡ a → row ≡ get_or rows at row → a < n → b < n → Pairs n rows f
    → ((rest : List A) × (get_or row b [] ≡ x ∷ rest) × (new ≡ slice_set row b rest)) → (rest : List A) × (f a b ≡ x ∷ rest) × Pairs n (slice_set rows at new) (set_pair f a b rest)
popped n at a b rows row new f x same is i j h e = (e.0, sym (there n at a b rows row f same is i j h) ∙ e.1, put n at a b rows row new f e.0 same is i j h e.2)

-- what a clause says of an option that is known
pub at_some : {A : Type 0} (o : Option A) (Q : A → Type 0) (x : A) → o ≡ Some x → IfSome o Q → Q x
at_some None Q x e h = cc
at_some (Some y) Q x e h = subst Q (same_Some y x e) h

pub when_some : {A : Type 0} (o : Option A) {Q : A → Type 0} → is_some o ≡ true → IfSome o Q → (x : A) × Q x
when_some None e h = absurd (false≢true e)
when_some (Some x) e h = (x, h)

pub when_none : {A : Type 0} (o : Option A) {Q : Type 0} → is_some o ≡ false → IfNone o Q → Q
when_none None e h = h
when_none (Some x) e h = absurd (false≢true (sym e))

pub none_of : {A : Type 0} (o : Option A) → is_some o ≡ false → o ≡ None
none_of None e = refl
none_of (Some x) e = absurd (false≢true (sym e))
