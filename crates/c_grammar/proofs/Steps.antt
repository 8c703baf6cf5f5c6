-- Steps of a descent, with their arguments left to be found.
use Rattle.std.proofs.Common.{◌≡◌, ◌∙◌, Result, Bool, ℕ, ◌+◌, true, false, List, refl, sym, ap, subst, arith}
use Rattle.c_tree.specs.declared.token.Token.{Token}
use Rattle.c_grammar.specs.declared.fault.ReadError.{ReadError}
use Rattle.c_grammar.specs.declared.fault.ReadError.TheVariants as error
use Rattle.c_grammar.specs.declared.fault.Unread.{Unread}
use Rattle.c_grammar.specs.declared.fault.Unread.TheVariants.{Syntax, TooDeep, TooLarge}
use Rattle.c_tree.specs.declared.token.Class.{Class}
use Rattle.c_grammar.specs.Grammar.{Part, Keep, Rule, Word, Ref, Then, Either, Many, Maybe, Deeper, rule}
use Rattle.c_grammar.specs.Meaning.{Forest, none, leaf, node, ◌+++◌, starts, next_in}
use Rattle.c_grammar.specs.Meaning as meaning
use Rattle.c_grammar.specs.Gives.{Stops, Fails, Gives, Finds}
use Rattle.std.specs.Result.{IsErrAnd}
use Rattle.std.proofs.lemmas.Result.{err_from_is_err_and}
use Rattle.c_grammar.specs.Descent.{Reads, Read, Fault, Kind, Bad, Unfit, Outcome, ref_read, ref_fault, then_read, then_first, then_second, left, right, stop, go, no, yes, deeper}

-- what a fault of one rule is for another
abbrev pub Passes : ℕ → Rule → List Token → ℕ → Rule → List Token → Type 0
Passes l r ts m q us = (k : Kind) (zs : List Token) → Reads m q us (Fault k zs) → Reads l r ts (Fault k zs)

pub stops_from : {l m : ℕ} {r q : Rule} {ts us : List Token} (e : Unread) → Passes l r ts m q us → Stops m q us e → Stops l r ts e
stops_from (Syntax n) p h = (h.0, h.1, p Bad h.0 h.2)
stops_from (TooDeep n) p h = (h.0, h.1, p (Unfit meaning.TooDeep) h.0 h.2)
stops_from (TooLarge n) p h = (h.0, h.1, p (Unfit meaning.TooLarge) h.0 h.2)

pub fails_from : {l m : ℕ} {r q : Rule} {ts us : List Token} (e : ReadError) → Passes l r ts m q us → Fails m q us e → Fails l r ts e
fails_from error.Memory p h = tt
fails_from (error.Unread e) p h = stops_from e p h

pub r_then : {l : ℕ} {a b : Rule} {ts us zs : List Token} {f g : Forest} (h : Forest) → Reads l a ts (Read f us) → Reads l b us (Read g zs) → h ≡ f +++ g → Reads l (Then a b) ts (Read h zs)
r_then {l} {a} {b} {ts} {us} {zs} {f} {g} h x y e = subst (λ (w : Forest). Reads l (Then a b) ts (Read w zs)) (sym e) (then_read l a b ts us zs f g x y)

pub r_ref : {l : ℕ} {p : Part} {ts zs : List Token} {f : Forest} → Reads l (rule p) ts (Read f zs) → Reads l (Ref p) ts (Read (node p f none) zs)
r_ref {l} {p} {ts} {zs} {f} h = ref_read l p ts zs f h

pub f_ref : {l : ℕ} {p : Part} {ts zs : List Token} {k : Kind} → Reads l (rule p) ts (Fault k zs) → Reads l (Ref p) ts (Fault k zs)
f_ref {l} {p} {ts} {zs} {k} h = ref_fault l p ts zs k h

pub f_first : {l : ℕ} {a b : Rule} {ts zs : List Token} {k : Kind} → Reads l a ts (Fault k zs) → Reads l (Then a b) ts (Fault k zs)
f_first {l} {a} {b} {ts} {zs} {k} h = then_first l a b ts zs k h

pub f_second : {l : ℕ} {a b : Rule} {ts us zs : List Token} {f : Forest} {k : Kind} → Reads l a ts (Read f us) → Reads l b us (Fault k zs) → Reads l (Then a b) ts (Fault k zs)
f_second {l} {a} {b} {ts} {us} {zs} {f} {k} x y = then_second l a b ts us zs f k x y

pub r_left : {l : ℕ} {a b : Rule} {ts : List Token} {o : Outcome} → starts a ts ≡ true → Reads l a ts o → Reads l (Either a b) ts o
r_left {l} {a} {b} {ts} {o} e h = left l a b ts o e h

pub r_right : {l : ℕ} {a b : Rule} {ts : List Token} {o : Outcome} → starts a ts ≡ false → Reads l b ts o → Reads l (Either a b) ts o
r_right {l} {a} {b} {ts} {o} e h = right l a b ts o e h

pub r_no : {l : ℕ} {r : Rule} {ts : List Token} → starts r ts ≡ false → Reads l (Maybe r) ts (Read none ts)
r_no {l} {r} {ts} e = no l r ts e

pub r_yes : {l : ℕ} {r : Rule} {ts : List Token} {o : Outcome} → starts r ts ≡ true → Reads l r ts o → Reads l (Maybe r) ts o
r_yes {l} {r} {ts} {o} e h = yes l r ts o e h

pub r_deeper : {l : ℕ} {r : Rule} {ts : List Token} {o : Outcome} → Reads (l + 1) r ts o → Reads l (Deeper r) ts o
r_deeper {l} {r} {ts} {o} h = deeper l r ts o (subst (λ (n : ℕ). Reads n r ts o) (omega arith) h)

pub none_right : (f : Forest) → f +++ none ≡ f
none_right none = refl
none_right (leaf c v p f) = ap (leaf c v p) (none_right f)
none_right (node p k f) = ap (node p k) (none_right f)

pub forest_assoc : (f g h : Forest) → (f +++ g) +++ h ≡ f +++ (g +++ h)
forest_assoc none g h = refl
forest_assoc (leaf c v p f) g h = ap (leaf c v p) (forest_assoc f g h)
forest_assoc (node p k f) g h = ap (node p k) (forest_assoc f g h)

-- After the row g, a repetition that began at ts stands at us.
pub record Past (l : ℕ) (r : Rule) (ts us : List Token) (g : Forest) : Type 0 where
  pub reads : (h : Forest) (zs : List Token) → Reads l (Many r) us (Read h zs) → Reads l (Many r) ts (Read (g +++ h) zs)
  pub fails : (k : Kind) (zs : List Token) → Reads l (Many r) us (Fault k zs) → Reads l (Many r) ts (Fault k zs)

pub past_start : (l : ℕ) (r : Rule) (ts : List Token) → Past l r ts ts none
past_start l r ts = record { reads = λ h zs x. x; fails = λ k zs x. x }

pub past_step : {l : ℕ} {r : Rule} {ts us vs : List Token} {g f : Forest} → Past l r ts us g → starts r us ≡ true → Reads l r us (Read f vs) → Past l r ts vs (g +++ f)
past_step {l} {r} {ts} {us} {vs} {g} {f} p e x =
    record {
      reads = λ h zs y. subst (λ (w : Forest). Reads l (Many r) ts (Read w zs)) (sym (forest_assoc g f h)) (p.reads (f +++ h) zs (go l r us _ e (then_read l r (Many r) us vs zs f h x y)));
      fails = λ k zs y. p.fails k zs (go l r us _ e (then_second l r (Many r) us vs zs f k x y));
    }

pub past_stop : {l : ℕ} {r : Rule} {ts us : List Token} {g : Forest} → Past l r ts us g → starts r us ≡ false → Reads l (Many r) ts (Read g us)
past_stop {l} {r} {ts} {us} {g} p e = subst (λ (w : Forest). Reads l (Many r) ts (Read w us)) (none_right g) (p.reads none us (stop l r us e))

pub past_fault : {l : ℕ} {r : Rule} {ts us zs : List Token} {g : Forest} {k : Kind} → Past l r ts us g → starts r us ≡ true → Reads l r us (Fault k zs) → Reads l (Many r) ts (Fault k zs)
past_fault {l} {r} {ts} {us} {zs} {g} {k} p e x = p.fails k zs (go l r us _ e (then_first l r (Many r) us zs k x))

pub r_seq : {l : ℕ} {a b : Rule} {ts us zs : List Token} {f g : Forest} → Reads l a ts (Read f us) → Reads l b us (Read g zs) → Reads l (Then a b) ts (Read (f +++ g) zs)
r_seq {l} {a} {b} {ts} {us} {zs} {f} {g} x y = then_read l a b ts us zs f g x y

pub r_same : {l : ℕ} {r : Rule} {ts us : List Token} {f g : Forest} → Reads l r ts (Read f us) → f ≡ g → Reads l r ts (Read g us)
r_same {l} {r} {ts} {us} {f} {g} x e = subst (λ (w : Forest). Reads l r ts (Read w us)) e x

pub cong3 : {A B C D : Type 0} (f : A → B → C → D) {a a' : A} {b b' : B} {c c' : C} → a ≡ a' → b ≡ b' → c ≡ c' → f a b c ≡ f a' b' c'
cong3 f p q r = λ i. f (p i) (q i) (r i)

pub cong2 : {A B C : Type 0} (f : A → B → C) {a a' : A} {b b' : B} → a ≡ a' → b ≡ b' → f a b ≡ f a' b'
cong2 f p q = λ i. f (p i) (q i)

-- what `?` returns
pub passed_on : {X : Type 0} (view : X → Forest) (after : X → List Token) (l : ℕ) (r : Rule) (ts : List Token) (e : ReadError) (o : Result X ReadError) → IsErrAnd o (λ y. y ≡ e) → Fails l r ts e → Gives view after l r ts o
passed_on {X} view after l r ts e o h f =
    let p = err_from_is_err_and o h in
    subst (λ (w : Result X ReadError). Gives view after l r ts w) (sym p.1) (subst (λ (w : ReadError). Fails l r ts w) (sym p.2) f)

-- the same of a fault
pub stop_passed_on : {X : Type 0} (view : X → Forest) (after : X → List Token) (l : ℕ) (r : Rule) (ts : List Token) (e : Unread) (o : Result X ReadError) → IsErrAnd o (λ y. y ≡ error.Unread e) → Stops l r ts e → Gives view after l r ts o
stop_passed_on view after l r ts e = passed_on view after l r ts (error.Unread e)

-- the same in a function that needs no memory
pub stop_found : {X : Type 0} (view : X → Forest) (after : X → List Token) (l : ℕ) (r : Rule) (ts : List Token) (e : Unread) (o : Result X Unread) → IsErrAnd o (λ y. y ≡ e) → Stops l r ts e → Finds view after l r ts o
stop_found {X} view after l r ts e o h f =
    let p = err_from_is_err_and o h in
    subst (λ (w : Result X Unread). Finds view after l r ts w) (sym p.1) (subst (λ (w : Unread). Stops l r ts w) (sym p.2) f)

-- the same steps, from the tests that a function makes
pub when_left : {l : ℕ} {a b : Rule} {ts : List Token} {o : Outcome} (t : Bool) → t ≡ starts a ts → t ≡ true → Reads l a ts o → Reads l (Either a b) ts o
when_left {l} {a} {b} {ts} {o} t e h x = left l a b ts o (sym e ∙ h) x

pub when_right : {l : ℕ} {a b : Rule} {ts : List Token} {o : Outcome} (t : Bool) → t ≡ starts a ts → t ≡ false → Reads l b ts o → Reads l (Either a b) ts o
when_right {l} {a} {b} {ts} {o} t e h x = right l a b ts o (sym e ∙ h) x

pub when_yes : {l : ℕ} {r : Rule} {ts : List Token} {o : Outcome} (t : Bool) → t ≡ starts r ts → t ≡ true → Reads l r ts o → Reads l (Maybe r) ts o
when_yes {l} {r} {ts} {o} t e h x = yes l r ts o (sym e ∙ h) x

pub when_no : {l : ℕ} {r : Rule} {ts : List Token} (t : Bool) → t ≡ starts r ts → t ≡ false → Reads l (Maybe r) ts (Read none ts)
when_no {l} {r} {ts} t e h = no l r ts (sym e ∙ h)

pub left_word : {l : ℕ} {k : Keep} {cs : List Class} {a b : Rule} {ts : List Token} {o : Outcome} (t : Bool) → t ≡ next_in cs ts → t ≡ true → Reads l (Then (Word k cs) a) ts o → Reads l (Either (Then (Word k cs) a) b) ts o
left_word {l} {k} {cs} {a} {b} {ts} {o} t e h x = left l (Then (Word k cs) a) b ts o (sym e ∙ h) x

pub right_word : {l : ℕ} {k : Keep} {cs : List Class} {a b : Rule} {ts : List Token} {o : Outcome} (t : Bool) → t ≡ next_in cs ts → t ≡ false → Reads l b ts o → Reads l (Either (Then (Word k cs) a) b) ts o
right_word {l} {k} {cs} {a} {b} {ts} {o} t e h x = right l (Then (Word k cs) a) b ts o (sym e ∙ h) x

pub yes_word : {l : ℕ} {k : Keep} {cs : List Class} {a : Rule} {ts : List Token} {o : Outcome} (t : Bool) → t ≡ next_in cs ts → t ≡ true → Reads l (Then (Word k cs) a) ts o → Reads l (Maybe (Then (Word k cs) a)) ts o
yes_word {l} {k} {cs} {a} {ts} {o} t e h x = yes l (Then (Word k cs) a) ts o (sym e ∙ h) x

pub no_word : {l : ℕ} {k : Keep} {cs : List Class} {a : Rule} {ts : List Token} (t : Bool) → t ≡ next_in cs ts → t ≡ false → Reads l (Maybe (Then (Word k cs) a)) ts (Read none ts)
no_word {l} {k} {cs} {a} {ts} t e h = no l (Then (Word k cs) a) ts (sym e ∙ h)

-- all that a function's steps need
pub ruleset descent = (passed_on, fails_from, stop_passed_on, stop_found, stops_from, f_ref, f_first, f_second, r_ref, r_seq, when_left, when_right, r_deeper, when_yes, when_no, left_word, right_word, yes_word, no_word)

-- a step that keeps nothing, before and after others
pub r_skip : {l : ℕ} {a b : Rule} {ts us zs : List Token} {g : Forest} → Reads l a ts (Read none us) → Reads l b us (Read g zs) → Reads l (Then a b) ts (Read g zs)
r_skip {l} {a} {b} {ts} {us} {zs} {g} x y = then_read l a b ts us zs none g x y

pub r_end : {l : ℕ} {a b : Rule} {ts us zs : List Token} {f : Forest} → Reads l a ts (Read f us) → Reads l b us (Read none zs) → Reads l (Then a b) ts (Read f zs)
r_end {l} {a} {b} {ts} {us} {zs} {f} x y = subst (λ (w : Forest). Reads l (Then a b) ts (Read w zs)) (none_right f) (then_read l a b ts us zs f none x y)
