-- The descent is exact: one outcome, that of the grammar.
use Rattle.std.proofs.Common.{◌≡◌, ℕ, suc, Bool, true, false, List, [], ◌∷◌, ◌++◌, refl, sym, ap, subst, ◌∙◌, ◌⊎◌, inl, inr, Option, Some, None, append_assoc}
use Rattle.c_tree.specs.declared.token.Class.{Class}
use Rattle.c_tree.specs.declared.token.Token.{Token}
use Rattle.c_grammar.specs.Grammar.{Part, Keep, Rule, Word, Ref, Then, Either, Many, Maybe, Deeper, rule}
use Rattle.c_tree.specs.Codes.{code}
use Rattle.c_grammar.specs.Meaning.{Forest, none, node, ◌+++◌, kept, starts, has, Spelled, tokens, Derives, Within, Reason, refused, d_word, d_ref, d_then, d_left, d_right, d_stop, d_go, d_no, d_yes, d_deeper}
use Rattle.c_grammar.specs.Descent.{Reads, Read, Fault, Unfit, Outcome, word_read, word_unfit, word_bad, ref_read, ref_fault, then_read, then_first, then_second, left, right, stop, go, no, yes, deeper}

-- one outcome
pub same : (l : ℕ) (r : Rule) (ts : List Token) (o p : Outcome) → Reads l r ts o → Reads l r ts p → o ≡ p
same _ _ _ _ _ (word_read l k c t ts e b) (word_read _ _ _ _ _ e' b') = refl
same _ _ _ _ _ (word_read l k c t ts e b) (word_unfit _ _ _ _ _ v' e' b') = cc
same _ _ _ _ _ (word_read l k c t ts e b) (word_bad _ _ _ _ e') = cc
same _ _ _ _ _ (word_unfit l k c t ts v e b) (word_read _ _ _ _ _ e' b') = cc
same _ _ _ _ _ (word_unfit l k c t ts v e b) (word_unfit _ _ _ _ _ v' e' b') = cc (b, b')
same _ _ _ _ _ (word_unfit l k c t ts v e b) (word_bad _ _ _ _ e') = cc
same _ _ _ _ _ (word_bad l k c _ e) (word_read _ _ _ t ts e' b') = cc
same _ _ _ _ _ (word_bad l k c _ e) (word_unfit _ _ _ t ts v' e' b') = cc
same _ _ _ _ _ (word_bad l k c ts e) (word_bad _ _ _ _ e') = refl
same _ _ _ _ _ (ref_read l p ts zs f h) (ref_read _ _ _ zs' f' h') = cc (same _ _ _ _ _ h h')
same _ _ _ _ _ (ref_read l p ts zs f h) (ref_fault _ _ _ zs' k' h') = cc (same _ _ _ _ _ h h')
same _ _ _ _ _ (ref_fault l p ts zs k h) (ref_read _ _ _ zs' f' h') = cc (same _ _ _ _ _ h h')
same _ _ _ _ _ (ref_fault l p ts zs k h) (ref_fault _ _ _ zs' k' h') = cc (same _ _ _ _ _ h h')
same _ _ _ _ _ (then_read l a b ts us zs f g x y) (then_read _ _ _ _ us' zs' f' g' x' y') =
    let q = same _ _ _ _ _ x x' in
    let e : us' ≡ us = cc q in
    cc (q, same _ _ _ _ _ y (subst (λ (w : List Token). Reads l b w (Read g' zs')) e y'))
same _ _ _ _ _ (then_read l a b ts us zs f g x y) (then_first _ _ _ _ zs' k' x') = cc (same _ _ _ _ _ x x')
same _ _ _ _ _ (then_read l a b ts us zs f g x y) (then_second _ _ _ _ us' zs' f' k' x' y') =
    let q = same _ _ _ _ _ x x' in
    let e : us' ≡ us = cc q in
    cc (same _ _ _ _ _ y (subst (λ (w : List Token). Reads l b w (Fault k' zs')) e y'))
same _ _ _ _ _ (then_first l a b ts zs k x) (then_read _ _ _ _ us' zs' f' g' x' y') = cc (same _ _ _ _ _ x x')
same _ _ _ _ _ (then_first l a b ts zs k x) (then_first _ _ _ _ zs' k' x') = cc (same _ _ _ _ _ x x')
same _ _ _ _ _ (then_first l a b ts zs k x) (then_second _ _ _ _ us' zs' f' k' x' y') = cc (same _ _ _ _ _ x x')
same _ _ _ _ _ (then_second l a b ts us zs f k x y) (then_read _ _ _ _ us' zs' f' g' x' y') =
    let q = same _ _ _ _ _ x x' in
    let e : us' ≡ us = cc q in
    cc (same _ _ _ _ _ y (subst (λ (w : List Token). Reads l b w (Read g' zs')) e y'))
same _ _ _ _ _ (then_second l a b ts us zs f k x y) (then_first _ _ _ _ zs' k' x') = cc (same _ _ _ _ _ x x')
same _ _ _ _ _ (then_second l a b ts us zs f k x y) (then_second _ _ _ _ us' zs' f' k' x' y') =
    let q = same _ _ _ _ _ x x' in
    let e : us' ≡ us = cc q in
    cc (same _ _ _ _ _ y (subst (λ (w : List Token). Reads l b w (Fault k' zs')) e y'))
same _ _ _ _ _ (left l a b ts o e h) (left _ _ _ _ o' e' h') = same _ _ _ _ _ h h'
same _ _ _ _ _ (left l a b ts o e h) (right _ _ _ _ o' e' h') = cc
same _ _ _ _ _ (right l a b ts o e h) (left _ _ _ _ o' e' h') = cc
same _ _ _ _ _ (right l a b ts o e h) (right _ _ _ _ o' e' h') = same _ _ _ _ _ h h'
same _ _ _ _ _ (stop l r ts e) (stop _ _ _ e') = refl
same _ _ _ _ _ (stop l r ts e) (go _ _ _ o' e' h') = cc
same _ _ _ _ _ (go l r ts o e h) (stop _ _ _ e') = cc
same _ _ _ _ _ (go l r ts o e h) (go _ _ _ o' e' h') = same _ _ _ _ _ h h'
same _ _ _ _ _ (no l r ts e) (no _ _ _ e') = refl
same _ _ _ _ _ (no l r ts e) (yes _ _ _ o' e' h') = cc
same _ _ _ _ _ (yes l r ts o e h) (no _ _ _ e') = cc
same _ _ _ _ _ (yes l r ts o e h) (yes _ _ _ o' e' h') = same _ _ _ _ _ h h'
same _ _ _ _ _ (deeper l r ts o h) (deeper _ _ _ o' h') = same _ _ _ _ _ h h'

pub tokens_append : (ss zs : List Spelled) (rest : List Token) → tokens (ss ++ zs) ++ rest ≡ tokens ss ++ (tokens zs ++ rest)
tokens_append [] zs rest = refl
tokens_append (s ∷ ss) zs rest = ap (λ w. s.token ∷ w) (tokens_append ss zs rest)

pub within_append : (ss zs : List Spelled) → Within ss → Within zs → Within (ss ++ zs)
within_append [] zs a b = b
within_append (s ∷ ss) zs a b = (a.0, within_append ss zs a.1 b)

pub within_front : (ss zs : List Spelled) → Within (ss ++ zs) → Within ss
within_front [] zs a = tt
within_front (s ∷ ss) zs a = (a.0, within_front ss zs a.1)

pub within_back : (ss zs : List Spelled) → Within (ss ++ zs) → Within zs
within_back [] zs a = a
within_back (s ∷ ss) zs a = within_back ss zs a.1

-- what is spelled is read, unless a token is refused: then the first such is the fault
abbrev Found : ℕ → Rule → Forest → List Spelled → List Token → Type 0
Found l r f ss rest = Reads l r (tokens ss ++ rest) (Read f rest) × Within ss

pub record Sunk (l : ℕ) (r : Rule) (ss : List Spelled) (rest : List Token) : Type 0 where
  pub front : List Spelled
  pub next : Spelled
  pub back : List Spelled
  pub why : Reason
  pub parts : ss ≡ front ++ next ∷ back
  pub within : Within front
  pub unfit : refused next.level next.token ≡ Some why
  pub reads : Reads l r (tokens ss ++ rest) (Fault (Unfit why) (next.token ∷ (tokens back ++ rest)))

abbrev pub Verdict : ℕ → Rule → Forest → List Spelled → List Token → Type 0
Verdict l r f ss rest = Found l r f ss rest ⊎ Sunk l r ss rest

pub not_unfit : (s : Spelled) (w : Reason) → refused s.level s.token ≡ Some w → refused s.level s.token ≡ None → ⊥
not_unfit s w e h = cc (e, h)

-- what is refused is not within
pub sunk_over : (l : ℕ) (r : Rule) (ss : List Spelled) (rest : List Token) → Sunk l r ss rest → Within ss → ⊥
sunk_over l r ss rest s w = not_unfit s.next s.why s.unfit (within_back s.front (s.next ∷ s.back) (subst Within s.parts w)).0

v_word : (l : ℕ) (k : Keep) (c : List Class) (t : Token) (rest : List Token) → has c (code t.class) ≡ true → (refused l t ≡ None) ⊎ ((w : Reason) × (refused l t ≡ Some w)) → Verdict l (Word k c) (kept k t) (record { token = t; level = l } ∷ []) rest
v_word l k c t rest e (inl b) = inl (word_read l k c t rest e b, (b, tt))
v_word l k c t rest e (inr b) = inr (record { front = []; next = record { token = t; level = l }; back = []; why = b.0; parts = refl; within = tt; unfit = b.1; reads = word_unfit l k c t rest b.0 e b.1 })

v_ref : (l : ℕ) (p : Part) (f : Forest) (ss : List Spelled) (rest : List Token) → Verdict l (rule p) f ss rest → Verdict l (Ref p) (node p f none) ss rest
v_ref l p f ss rest (inl h) = inl (ref_read l p _ _ f h.0, h.1)
v_ref l p f ss rest (inr h) = inr (record { front = h.front; next = h.next; back = h.back; why = h.why; parts = h.parts; within = h.within; unfit = h.unfit; reads = ref_fault l p _ _ (Unfit h.why) h.reads })

v_first : (l : ℕ) (a b : Rule) (ss zs : List Spelled) (rest : List Token) → Sunk l a ss (tokens zs ++ rest) → Sunk l (Then a b) (ss ++ zs) rest
v_first l a b ss zs rest x =
    record {
      front = x.front;
      next = x.next;
      back = x.back ++ zs;
      why = x.why;
      parts = ap (λ (w : List Spelled). w ++ zs) x.parts ∙ append_assoc x.front (x.next ∷ x.back) zs;
      within = x.within;
      unfit = x.unfit;
      reads = subst (λ (w : List Token × List Token). Reads l (Then a b) w.0 (Fault (Unfit x.why) (x.next.token ∷ w.1))) (λ i. (sym (tokens_append ss zs rest) i, sym (tokens_append x.back zs rest) i)) (then_first l a b _ _ (Unfit x.why) x.reads);
    }

v_second : (l : ℕ) (a b : Rule) (f : Forest) (ss zs : List Spelled) (rest : List Token) → Found l a f ss (tokens zs ++ rest) → Sunk l b zs rest → Sunk l (Then a b) (ss ++ zs) rest
v_second l a b f ss zs rest x y =
    record {
      front = ss ++ y.front;
      next = y.next;
      back = y.back;
      why = y.why;
      parts = ap (λ (w : List Spelled). ss ++ w) y.parts ∙ sym (append_assoc ss y.front (y.next ∷ y.back));
      within = within_append ss y.front x.1 y.within;
      unfit = y.unfit;
      reads = subst (λ (w : List Token). Reads l (Then a b) w (Fault (Unfit y.why) (y.next.token ∷ (tokens y.back ++ rest)))) (sym (tokens_append ss zs rest)) (then_second l a b _ _ _ f (Unfit y.why) x.0 y.reads);
    }

v_then : (l : ℕ) (a b : Rule) (f g : Forest) (ss zs : List Spelled) (rest : List Token) → Verdict l a f ss (tokens zs ++ rest) → Verdict l b g zs rest → Verdict l (Then a b) (f +++ g) (ss ++ zs) rest
v_then l a b f g ss zs rest (inl x) (inl y) =
    inl (subst (λ (w : List Token). Reads l (Then a b) w (Read (f +++ g) rest)) (sym (tokens_append ss zs rest)) (then_read l a b _ _ _ f g x.0 y.0), within_append ss zs x.1 y.1)
v_then l a b f g ss zs rest (inl x) (inr y) = inr (v_second l a b f ss zs rest x y)
v_then l a b f g ss zs rest (inr x) _ = inr (v_first l a b ss zs rest x)

-- a verdict of one rule is one of another
v_map : (l m : ℕ) (q r : Rule) (f : Forest) (ss : List Spelled) (rest : List Token) → ((o : Outcome) → Reads l q (tokens ss ++ rest) o → Reads m r (tokens ss ++ rest) o) → Verdict l q f ss rest → Verdict m r f ss rest
v_map l m q r f ss rest w (inl h) = inl (w _ h.0, h.1)
v_map l m q r f ss rest w (inr h) = inr (record { front = h.front; next = h.next; back = h.back; why = h.why; parts = h.parts; within = h.within; unfit = h.unfit; reads = w _ h.reads })

none_or : {X : Type 0} (o : Option X) → (o ≡ None) ⊎ ((x : X) × (o ≡ Some x))
none_or None = inl refl
none_or (Some x) = inr (x, refl)

pub complete : (l : ℕ) (r : Rule) (f : Forest) (ss : List Spelled) (rest : List Token) → Derives l r f ss rest → Verdict l r f ss rest
complete _ _ _ _ _ (d_word l k c t rest e) = v_word l k c t rest e (none_or (refused l t))
complete _ _ _ _ _ (d_ref l p f ss rest h) = v_ref l p f ss rest (complete _ _ _ _ _ h)
complete _ _ _ _ _ (d_then l a b f g ss zs rest x y) = v_then l a b f g ss zs rest (complete _ _ _ _ _ x) (complete _ _ _ _ _ y)
complete _ _ _ _ _ (d_left l a b f ss rest e h) = v_map l l a (Either a b) f ss rest (λ o w. left l a b _ o e w) (complete _ _ _ _ _ h)
complete _ _ _ _ _ (d_right l a b f ss rest e h) = v_map l l b (Either a b) f ss rest (λ o w. right l a b _ o e w) (complete _ _ _ _ _ h)
complete _ _ _ _ _ (d_stop l r rest e) = inl (stop l r rest e, tt)
complete _ _ _ _ _ (d_go l r f ss rest e h) = v_map l l (Then r (Many r)) (Many r) f ss rest (λ o w. go l r _ o e w) (complete _ _ _ _ _ h)
complete _ _ _ _ _ (d_no l r rest e) = inl (no l r rest e, tt)
complete _ _ _ _ _ (d_yes l r f ss rest e h) = v_map l l r (Maybe r) f ss rest (λ o w. yes l r _ o e w) (complete _ _ _ _ _ h)
complete _ _ _ _ _ (d_deeper l r f ss rest h) = v_map (suc l) l r (Deeper r) f ss rest (λ o w. deeper l r _ o w) (complete _ _ _ _ _ h)

-- what is read is spelled so
pub record Sound (l : ℕ) (r : Rule) (ts : List Token) (f : Forest) (zs : List Token) : Type 0 where
  pub spelled : List Spelled
  pub all : ts ≡ tokens spelled ++ zs
  pub derives : Derives l r f spelled zs
  pub within : Within spelled

s_map : (l m : ℕ) (q r : Rule) (ts : List Token) (f : Forest) (zs : List Token) → ((ss : List Spelled) → ts ≡ tokens ss ++ zs → Derives l q f ss zs → Derives m r f ss zs) → Sound l q ts f zs → Sound m r ts f zs
s_map l m q r ts f zs w h = record { spelled = h.spelled; all = h.all; derives = w h.spelled h.all h.derives; within = h.within }

s_then : (l : ℕ) (a b : Rule) (ts us zs : List Token) (f g : Forest) → Sound l a ts f us → Sound l b us g zs → Sound l (Then a b) ts (f +++ g) zs
s_then l a b ts us zs f g x y =
    record {
      spelled = x.spelled ++ y.spelled;
      all = x.all ∙ (ap (λ w. tokens x.spelled ++ w) y.all ∙ sym (tokens_append x.spelled y.spelled zs));
      derives = d_then l a b f g x.spelled y.spelled zs (subst (λ (w : List Token). Derives l a f x.spelled w) y.all x.derives) y.derives;
      within = within_append x.spelled y.spelled x.within y.within;
    }

starts_at : (r : Rule) (ts us : List Token) (b : Bool) → ts ≡ us → starts r ts ≡ b → starts r us ≡ b
starts_at r ts us b e h = subst (λ (w : List Token). starts r w ≡ b) e h

pub sound : (l : ℕ) (r : Rule) (ts : List Token) (f : Forest) (zs : List Token) → Reads l r ts (Read f zs) → Sound l r ts f zs
sound _ _ _ _ _ (word_read l k c t ts e b) = record { spelled = record { token = t; level = l } ∷ []; all = refl; derives = d_word l k c t ts e; within = (b, tt) }
sound _ _ _ _ _ (ref_read l p ts zs f h) = let x = sound _ _ _ _ _ h in record { spelled = x.spelled; all = x.all; derives = d_ref l p f x.spelled zs x.derives; within = x.within }
sound _ _ _ _ _ (then_read l a b ts us zs f g x y) = s_then l a b ts us zs f g (sound _ _ _ _ _ x) (sound _ _ _ _ _ y)
sound _ _ _ f zs (left l a b ts _ e h) = s_map l l a (Either a b) ts f zs (λ ss q d. d_left l a b f ss zs (starts_at a _ _ true q e) d) (sound _ _ _ _ _ h)
sound _ _ _ f zs (right l a b ts _ e h) = s_map l l b (Either a b) ts f zs (λ ss q d. d_right l a b f ss zs (starts_at a _ _ false q e) d) (sound _ _ _ _ _ h)
sound _ _ _ _ _ (stop l r ts e) = record { spelled = []; all = refl; derives = d_stop l r ts e; within = tt }
sound _ _ _ f zs (go l r ts _ e h) = s_map l l (Then r (Many r)) (Many r) ts f zs (λ ss q d. d_go l r f ss zs (starts_at r _ _ true q e) d) (sound _ _ _ _ _ h)
sound _ _ _ _ _ (no l r ts e) = record { spelled = []; all = refl; derives = d_no l r ts e; within = tt }
sound _ _ _ f zs (yes l r ts _ e h) = s_map l l r (Maybe r) ts f zs (λ ss q d. d_yes l r f ss zs (starts_at r _ _ true q e) d) (sound _ _ _ _ _ h)
sound _ _ _ f zs (deeper l r ts _ h) = s_map (suc l) l r (Deeper r) ts f zs (λ ss q d. d_deeper l r f ss zs d) (sound _ _ _ _ _ h)
