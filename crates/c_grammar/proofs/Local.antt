-- A descent looks at the tokens that it reads and at the next one, and at nothing behind it.
use Rattle.std.proofs.Common.{◌≡◌, ℕ, suc, Bool, true, false, List, [], ◌∷◌, ◌++◌, refl, sym, ap, subst, ◌∙◌, inl, inr, Some, ◌||◌, append_assoc}
use Rattle.std.specs.Prelude.{◌&&◌}
use Rattle.c_tree.specs.declared.token.Class.{Class}
use Rattle.c_tree.specs.declared.token.Token.{Token}
use Rattle.c_grammar.specs.Grammar.{Keep, Rule, Word, Ref, Then, Either, Many, Maybe, Deeper}
use Rattle.c_grammar.specs.Meaning.{Forest, ◌+++◌, next_in, starts, nullable, Spelled, tokens, Derives, Reason, refused}
use Rattle.c_grammar.specs.Descent.{Reads, Read, Fault, Kind, Bad, Unfit, Outcome, word_read, word_unfit, word_bad, ref_read, ref_fault, then_read, then_first, then_second, left, right, stop, go, no, yes, deeper}
use Rattle.c_grammar.proofs.Exact.{same, complete, Verdict}

-- the same next token, or the same end
abbrev pub Like : List Token → List Token → Type 0
Like [] [] = Unit {0}
Like [] (s ∷ zs) = ⊥
Like (t ∷ us) [] = ⊥
Like (t ∷ us) (s ∷ zs) = t ≡ s

pub starts_tail : (r : Rule) (t : Token) (us zs : List Token) → starts r (t ∷ us) ≡ starts r (t ∷ zs)
starts_tail (Word k c) t us zs = refl
starts_tail (Ref p) t us zs = refl
starts_tail (Then a b) t us zs = λ i. (nullable a && starts_tail b t us zs i) || starts_tail a t us zs i
starts_tail (Either a b) t us zs = λ i. starts_tail a t us zs i || starts_tail b t us zs i
starts_tail (Many r) t us zs = starts_tail r t us zs
starts_tail (Maybe r) t us zs = starts_tail r t us zs
starts_tail (Deeper r) t us zs = starts_tail r t us zs

pub starts_like : (r : Rule) (us zs : List Token) → Like us zs → starts r us ≡ starts r zs
starts_like r [] [] h = refl
starts_like r [] (s ∷ zs) h = absurd h
starts_like r (t ∷ us) [] h = absurd h
starts_like r (t ∷ us) (s ∷ zs) h = starts_tail r t us zs ∙ ap (λ (w : Token). starts r (w ∷ zs)) h

pub like_append : (pre us zs : List Token) → Like us zs → Like (pre ++ us) (pre ++ zs)
like_append [] us zs h = h
like_append (t ∷ pre) us zs h = refl

abbrev pub rest_of : Outcome → List Token
rest_of (Read f zs) = zs
rest_of (Fault k zs) = zs

abbrev pub put : Outcome → List Token → Outcome
put (Read f _) zs = Read f zs
put (Fault k _) zs = Fault k zs

pub record Local (l : ℕ) (r : Rule) (ts : List Token) (o : Outcome) : Type 0 where
  pub front : List Token
  pub all : ts ≡ front ++ rest_of o
  pub again : (zs : List Token) → Like (rest_of o) zs → Reads l r (front ++ zs) (put o zs)

l_unfit : (l : ℕ) (k : Keep) (c : List Class) (t : Token) (ts zs : List Token) (w : Reason) → next_in c (t ∷ ts) ≡ true → refused l t ≡ Some w → Like (t ∷ ts) zs → Reads l (Word k c) zs (Fault (Unfit w) zs)
l_unfit l k c t ts [] w e b h = absurd h
l_unfit l k c t ts (s ∷ zs) w e b h = word_unfit l k c s zs w (ap (λ (w : Token). next_in c (w ∷ zs)) (sym h) ∙ e) (ap (λ (w : Token). refused l w) (sym h) ∙ b)

l_map : (l m : ℕ) (q r : Rule) (ts : List Token) (o : Outcome) → ((front : List Token) → ts ≡ front ++ rest_of o → (zs : List Token) → Like (rest_of o) zs → Reads l q (front ++ zs) (put o zs) → Reads m r (front ++ zs) (put o zs)) → Local l q ts o → Local m r ts o
l_map l m q r ts o w h = record { front = h.front; all = h.all; again = λ zs e. w h.front h.all zs e (h.again zs e) }

l_starts : (r : Rule) (ts front us zs : List Token) (b : Bool) → ts ≡ front ++ us → Like us zs → starts r ts ≡ b → starts r (front ++ zs) ≡ b
l_starts r ts front us zs b e h s = sym (starts_like r (front ++ us) (front ++ zs) (like_append front us zs h)) ∙ (ap (starts r) (sym e) ∙ s)

l_join : (ts us xs ys zs : List Token) → ts ≡ xs ++ us → us ≡ ys ++ zs → ts ≡ (xs ++ ys) ++ zs
l_join ts us xs ys zs a b = a ∙ (ap (λ (w : List Token). xs ++ w) b ∙ sym (append_assoc xs ys zs))

l_then : (l : ℕ) (a b : Rule) (ts us zs : List Token) (f g : Forest) → Local l a ts (Read f us) → Local l b us (Read g zs) → Local l (Then a b) ts (Read (f +++ g) zs)
l_then l a b ts us zs f g x y =
    record {
      front = x.front ++ y.front;
      all = l_join ts us x.front y.front zs x.all y.all;
      again = λ vs e. subst (λ (w : List Token). Reads l (Then a b) w (Read (f +++ g) vs)) (sym (append_assoc x.front y.front vs))
          (then_read l a b _ _ vs f g (x.again (y.front ++ vs) (subst (λ (w : List Token). Like w (y.front ++ vs)) (sym y.all) (like_append y.front zs vs e))) (y.again vs e));
    }

l_second : (l : ℕ) (a b : Rule) (ts us zs : List Token) (f : Forest) (k : Kind) → Local l a ts (Read f us) → Local l b us (Fault k zs) → Local l (Then a b) ts (Fault k zs)
l_second l a b ts us zs f k x y =
    record {
      front = x.front ++ y.front;
      all = l_join ts us x.front y.front zs x.all y.all;
      again = λ vs e. subst (λ (w : List Token). Reads l (Then a b) w (Fault k vs)) (sym (append_assoc x.front y.front vs))
          (then_second l a b _ _ vs f k (x.again (y.front ++ vs) (subst (λ (w : List Token). Like w (y.front ++ vs)) (sym y.all) (like_append y.front zs vs e))) (y.again vs e));
    }

pub local : (l : ℕ) (r : Rule) (ts : List Token) (o : Outcome) → Reads l r ts o → Local l r ts o
local _ _ _ _ (word_read l k c t ts e b) = record { front = t ∷ []; all = refl; again = λ zs _. word_read l k c t zs e b }
local _ _ _ _ (word_unfit l k c t ts w e b) = record { front = []; all = refl; again = λ zs h. l_unfit l k c t ts zs w e b h }
local _ _ _ _ (word_bad l k c ts e) = record { front = []; all = refl; again = λ zs h. word_bad l k c zs (l_starts (Word k c) ts [] ts zs false refl h e) }
local _ _ _ _ (ref_read l p ts zs f h) = let x = local _ _ _ _ h in record { front = x.front; all = x.all; again = λ vs e. ref_read l p _ vs f (x.again vs e) }
local _ _ _ _ (ref_fault l p ts zs k h) = let x = local _ _ _ _ h in record { front = x.front; all = x.all; again = λ vs e. ref_fault l p _ vs k (x.again vs e) }
local _ _ _ _ (then_read l a b ts us zs f g x y) = l_then l a b ts us zs f g (local _ _ _ _ x) (local _ _ _ _ y)
local _ _ _ _ (then_first l a b ts zs k h) = let x = local _ _ _ _ h in record { front = x.front; all = x.all; again = λ vs e. then_first l a b _ vs k (x.again vs e) }
local _ _ _ _ (then_second l a b ts us zs f k x y) = l_second l a b ts us zs f k (local _ _ _ _ x) (local _ _ _ _ y)
local _ _ _ _ (left l a b ts o e h) = l_map l l a (Either a b) ts o (λ v q zs w d. left l a b _ _ (l_starts a ts v (rest_of o) zs true q w e) d) (local _ _ _ _ h)
local _ _ _ _ (right l a b ts o e h) = l_map l l b (Either a b) ts o (λ v q zs w d. right l a b _ _ (l_starts a ts v (rest_of o) zs false q w e) d) (local _ _ _ _ h)
local _ _ _ _ (stop l r ts e) = record { front = []; all = refl; again = λ zs h. stop l r zs (l_starts r ts [] ts zs false refl h e) }
local _ _ _ _ (go l r ts o e h) = l_map l l (Then r (Many r)) (Many r) ts o (λ v q zs w d. go l r _ _ (l_starts r ts v (rest_of o) zs true q w e) d) (local _ _ _ _ h)
local _ _ _ _ (no l r ts e) = record { front = []; all = refl; again = λ zs h. no l r zs (l_starts r ts [] ts zs false refl h e) }
local _ _ _ _ (yes l r ts o e h) = l_map l l r (Maybe r) ts o (λ v q zs w d. yes l r _ _ (l_starts r ts v (rest_of o) zs true q w e) d) (local _ _ _ _ h)
local _ _ _ _ (deeper l r ts o h) = l_map (suc l) l r (Deeper r) ts o (λ v q zs w d. deeper l r _ _ d) (local _ _ _ _ h)

-- where a descent stops at a token that is not read to the end, nothing that begins so is spelled whole
whole_clash : (l : ℕ) (r : Rule) (f : Forest) (ss : List Spelled) (o : Outcome) → Reads l r (tokens ss ++ []) o → ((g : Forest) → o ≡ Read g [] → ⊥) → ((zs : List Token) (w : Reason) → o ≡ Fault (Unfit w) zs → ⊥) → Verdict l r f ss [] → ⊥
whole_clash l r f ss o h a b (inl v) = a f (same _ _ _ _ _ h v.0)
whole_clash l r f ss o h a b (inr v) = b (v.next.token ∷ (tokens v.back ++ [])) v.why (same _ _ _ _ _ h v.reads)

pub append_none : (ts : List Token) → ts ++ [] ≡ ts
append_none [] = refl
append_none (t ∷ ts) = ap (λ w. t ∷ w) (append_none ts)

-- no spelled list begins with the tokens before the fault and the faulty one
pub dead_bad : (l : ℕ) (r : Rule) (ts : List Token) (c : Token) (us : List Token) → (x : Local l r ts (Fault Bad (c ∷ us))) → (f : Forest) (ss : List Spelled) (vs : List Token) → Derives l r f ss [] → tokens ss ≡ x.front ++ (c ∷ vs) → ⊥
dead_bad l r ts c us x f ss vs d e =
    whole_clash l r f ss (Fault Bad (c ∷ vs)) (subst (λ (w : List Token). Reads l r w (Fault Bad (c ∷ vs))) (sym (append_none (tokens ss) ∙ e)) (x.again (c ∷ vs) refl)) (λ g q. cc) (λ zs w q. cc) (complete l r f ss [] d)

-- the same where the tokens end too early
pub dead_end : (l : ℕ) (r : Rule) (ts : List Token) → Local l r ts (Fault Bad []) → (f : Forest) (ss : List Spelled) → Derives l r f ss [] → tokens ss ≡ ts → ⊥
dead_end l r ts x f ss d e =
    whole_clash l r f ss (Fault Bad []) (subst (λ (w : List Token). Reads l r w (Fault Bad [])) (sym x.all ∙ sym (append_none (tokens ss) ∙ e)) (x.again [] tt)) (λ g q. cc) (λ zs w q. cc) (complete l r f ss [] d)

-- the same where something stands behind what was read
pub dead_rest : (l : ℕ) (r : Rule) (ts : List Token) (h : Forest) (c : Token) (us : List Token) → (x : Local l r ts (Read h (c ∷ us))) → (f : Forest) (ss : List Spelled) (vs : List Token) → Derives l r f ss [] → tokens ss ≡ x.front ++ (c ∷ vs) → ⊥
dead_rest l r ts h c us x f ss vs d e =
    whole_clash l r f ss (Read h (c ∷ vs)) (subst (λ (w : List Token). Reads l r w (Read h (c ∷ vs))) (sym (append_none (tokens ss) ∙ e)) (x.again (c ∷ vs) refl)) (λ g q. cc) (λ zs w q. cc) (complete l r f ss [] d)
