-- What was read before a fault begins something that is spelled whole.
use Rattle.std.proofs.Common.{◌≡◌, ◌≤◌, ◌<◌, ℕ, zero, suc, Bool, true, false, List, [], ◌∷◌, ◌++◌, length, refl, sym, ap, subst, arith, nat_lt, Some, ◌∙◌, ◌⊎◌, inl, inr, ◌||◌, append_assoc, length-append}
use Rattle.std.specs.Prelude.{◌&&◌, not}
use Rattle.std.proofs.lemmas.Grind.{common_steps}
use Rattle.std.proofs.lemmas.Bool.{and_parts, and_from, or_cases, or_parts, or_left, or_right}
use Rattle.c_tree.specs.declared.token.Class.{Class}
use Rattle.c_tree.specs.declared.token.Token.{Token}
use Rattle.c_tree.specs.declared.token.Value.TheVariants as value
use Rattle.c_grammar.specs.Grammar.{Part, Rule, Word, Ref, Then, Either, Many, Maybe, Deeper, rule}
use Rattle.c_grammar.specs.Meaning.{Forest, none, node, ◌+++◌, starts, nullable, next_in, Spelled, tokens, Derives, Within, Reason, refused, d_word, d_ref, d_then, d_left, d_right, d_stop, d_go, d_no, d_yes, d_deeper}
use Rattle.c_grammar.specs.Descent.{Reads, Read, Fault, Kind, Bad, Unfit, Outcome, word_read, word_unfit, word_bad, ref_read, ref_fault, then_read, then_first, then_second, left, right, stop, go, no, yes, deeper}
use Rattle.c_grammar.proofs.Exact.{tokens_append, within_append, sound, Sound}
use Rattle.c_grammar.proofs.Local.{Like, starts_like, starts_tail, like_append, local}
use Rattle.c_grammar.proofs.Facts.{more_part, rank}
use Rattle.c_grammar.proofs.Tables.{more, firm, good, goers, starters, apart_test, settled, lower, first_of, first_in, more_clash, starts_clash, good_rule, nullable_rule, starts_rule, more_rule, settled_rule, firm_nullable, settled_all}

-- what is spelled is empty, or its first token is one that opens
abbrev pub Opened : Rule → List Spelled → List Token → Type 0
Opened r ss y = ((ss ≡ []) × (nullable r ≡ true)) ⊎ ((0 < length ss) × (starts r (tokens ss ++ y) ≡ true))

pub o_map : (q r : Rule) (ss : List Spelled) (y : List Token) → (nullable q ≡ true → nullable r ≡ true) → ((ts : List Token) → starts q ts ≡ true → starts r ts ≡ true) → Opened q ss y → Opened r ss y
o_map q r ss y a b (inl h) = inl (h.0, a h.1)
o_map q r ss y a b (inr h) = inr (h.0, b _ h.1)

pub o_then : (a b : Rule) (ss zs : List Spelled) (y : List Token) → Opened a ss (tokens zs ++ y) → Opened b zs y → Opened (Then a b) (ss ++ zs) y
o_then a b ss zs y (inl h) (inl g) = inl (ap (λ (w : List Spelled). w ++ zs) h.0 ∙ g.0, and_from _ _ h.1 g.1)
o_then a b ss zs y (inl h) (inr g) =
    subst (λ (w : List Spelled). Opened (Then a b) (w ++ zs) y) (sym h.0) (inr (g.0, or_left _ _ (and_from _ _ h.1 g.1)))
o_then a b ss zs y (inr h) _ =
    inr (omega (arith, length-append ss zs), subst (λ (w : List Token). starts (Then a b) w ≡ true) (sym (tokens_append ss zs y)) (or_right _ _ h.1))

pub or_same : (a b : Bool) → ((a && b) || b) ≡ true → b ≡ true
or_same a true h = refl
or_same true false h = h
or_same false false h = h

opened : (l : ℕ) (r : Rule) (f : Forest) (ss : List Spelled) (y : List Token) → Derives l r f ss y → Opened r ss y
opened _ _ _ _ _ (d_word l k c t y e) = inr (omega arith, e)
opened _ _ _ _ _ (d_ref l p f ss y h) = o_map (rule p) (Ref p) ss y (λ e. sym (nullable_rule p) ∙ e) (λ ts h. sym (starts_rule p ts) ∙ h) (opened _ _ _ _ _ h)
opened _ _ _ _ _ (d_then l a b f g ss zs y x z) = o_then a b ss zs y (opened _ _ _ _ _ x) (opened _ _ _ _ _ z)
opened _ _ _ _ _ (d_left l a b f ss y e h) = o_map a (Either a b) ss y (λ e. or_left _ _ e) (λ ts e. or_left _ _ e) (opened _ _ _ _ _ h)
opened _ _ _ _ _ (d_right l a b f ss y e h) = o_map b (Either a b) ss y (λ e. or_right _ _ e) (λ ts e. or_right _ _ e) (opened _ _ _ _ _ h)
opened _ _ _ _ _ (d_stop l r y e) = inl (refl, refl)
opened _ _ _ _ _ (d_go l r f ss y e h) = o_map (Then r (Many r)) (Many r) ss y (λ e. refl) (λ ts e. or_same (nullable r) (starts r ts) e) (opened _ _ _ _ _ h)
opened _ _ _ _ _ (d_no l r y e) = inl (refl, refl)
opened _ _ _ _ _ (d_yes l r f ss y e h) = o_map r (Maybe r) ss y (λ e. refl) (λ ts e. e) (opened _ _ _ _ _ h)
opened _ _ _ _ _ (d_deeper l r f ss y h) = opened _ _ _ _ _ h

-- a firm rule spells something, whose first token starts it
firm_some : (r : Rule) (ss : List Spelled) (y : List Token) → firm r ≡ true → Opened r ss y → 0 < length ss
firm_some r ss y h (inl o) = let q = firm_nullable r h in cc (o.1)
firm_some r ss y h (inr o) = o.0

pub firm_starts : (r : Rule) (ss : List Spelled) (y : List Token) → firm r ≡ true → Opened r ss y → starts r (tokens ss ++ y) ≡ true
firm_starts r ss y h (inl o) = let q = firm_nullable r h in cc (o.1)
firm_starts r ss y h (inr o) = o.1

-- only the next token behind matters
starts_at : (r : Rule) (ss : List Spelled) (y z : List Token) (b : Bool) → Like y z → starts r (tokens ss ++ y) ≡ b → starts r (tokens ss ++ z) ≡ b
starts_at r ss y z b e h = sym (starts_like r (tokens ss ++ y) (tokens ss ++ z) (like_append (tokens ss) y z e)) ∙ h

pub d_like : (l : ℕ) (r : Rule) (f : Forest) (ss : List Spelled) (y z : List Token) → Like y z → Derives l r f ss y → Derives l r f ss z
d_like _ _ _ _ _ z e (d_word l k c t y q) = d_word l k c t z q
d_like _ _ _ _ _ z e (d_ref l p f ss y h) = d_ref l p f ss z (d_like _ _ _ _ _ z e h)
d_like _ _ _ _ _ z e (d_then l a b f g ss zs y x w) = d_then l a b f g ss zs z (d_like _ _ _ _ _ (tokens zs ++ z) (like_append (tokens zs) y z e) x) (d_like _ _ _ _ _ z e w)
d_like _ _ _ _ _ z e (d_left l a b f ss y q h) = d_left l a b f ss z (starts_at a ss y z true e q) (d_like _ _ _ _ _ z e h)
d_like _ _ _ _ _ z e (d_right l a b f ss y q h) = d_right l a b f ss z (starts_at a ss y z false e q) (d_like _ _ _ _ _ z e h)
d_like _ _ _ _ _ z e (d_stop l r y q) = d_stop l r z (starts_at r [] y z false e q)
d_like _ _ _ _ _ z e (d_go l r f ss y q h) = d_go l r f ss z (starts_at r ss y z true e q) (d_like _ _ _ _ _ z e h)
d_like _ _ _ _ _ z e (d_no l r y q) = d_no l r z (starts_at r [] y z false e q)
d_like _ _ _ _ _ z e (d_yes l r f ss y q h) = d_yes l r f ss z (starts_at r ss y z true e q) (d_like _ _ _ _ _ z e h)
d_like _ _ _ _ _ z e (d_deeper l r f ss y h) = d_deeper l r f ss z (d_like _ _ _ _ _ z e h)

starts_more : (r : Rule) (ss : List Spelled) (y z : List Token) (b : Bool) → 0 < length ss → starts r (tokens ss ++ y) ≡ b → starts r (tokens ss ++ z) ≡ b
starts_more r [] y z b p h = absurd (omega arith)
starts_more r (s ∷ ss) y z b p h = sym (starts_tail r s.token (tokens ss ++ y) (tokens ss ++ z)) ∙ h

some_like : (ss : List Spelled) (y z : List Token) → 0 < length ss → Like (tokens ss ++ y) (tokens ss ++ z)
some_like [] y z p = absurd (omega arith)
some_like (s ∷ ss) y z p = refl

good_go : (r : Rule) → good (Many r) ≡ true → good (Then r (Many r)) ≡ true
good_go r h = and_from (good r) _ (and_parts _ _ h).0 (and_from (good (Many r)) _ h refl)

pub firm_go : (r : Rule) → firm r ≡ true → firm (Then r (Many r)) ≡ true
firm_go r h = ap (λ (x : Bool). not (x && true)) (firm_nullable r h)

pub starts_go : (r : Rule) (ts : List Token) → starts (Then r (Many r)) ts ≡ true → starts r ts ≡ true
starts_go r ts h = or_same (nullable r) (starts r ts) h

go_starts : (r : Rule) (ts : List Token) → starts r ts ≡ true → starts (Then r (Many r)) ts ≡ true
go_starts r ts h = or_right _ _ h

more_go : (r : Rule) (z : List Token) → more (Many r) z ≡ false → more (Then r (Many r)) z ≡ false
more_go r z h = λ i. (or_parts (starts r z) (more r z) h).1 i || h i

-- anything may follow that could not go on
more_then : (a b : Rule) (zs : List Spelled) (y : List Token) → Opened b zs y → (z : List Token) → more (Then a b) z ≡ false → (zs ≡ [] → more a z ≡ false)
more_then a b zs y (inl o) z h e = let q = (or_parts (nullable b && more a z) (more b z) h).0 in let w : more a z ≡ (nullable b && more a z) = ap (λ (x : Bool). x && more a z) (sym o.1) in w ∙ q
more_then a b zs y (inr o) z h e = let q : length zs ≡ 0 = ap length e in absurd (omega (arith, o.0))

abbrev Follows : ℕ → Rule → Forest → List Spelled → Type 0
Follows l r f ss = (z : List Token) → more r z ≡ false → Derives l r f ss z

f_then : (l : ℕ) (a b : Rule) (f g : Forest) (ss zs : List Spelled) (y : List Token) → Derives l a f ss (tokens zs ++ y) → Opened b zs y → Follows l a f ss → Follows l b g zs → Follows l (Then a b) (f +++ g) (ss ++ zs)
f_then l a b f g ss [] y d o x w z h = d_then l a b f g ss [] z (x z (more_then a b [] y o z h refl)) (w z (or_parts (nullable b && more a z) (more b z) h).1)
f_then l a b f g ss (s ∷ zs) y d o x w z h = d_then l a b f g ss (s ∷ zs) z (d_like _ _ _ _ _ (tokens (s ∷ zs) ++ z) refl d) (w z (or_parts (nullable b && more a z) (more b z) h).1)

pub d_follows : (l : ℕ) (r : Rule) (f : Forest) (ss : List Spelled) (y : List Token) → good r ≡ true → Derives l r f ss y → Follows l r f ss
d_follows _ _ _ _ _ w (d_word l k c t y q) z h = d_word l k c t z q
d_follows _ _ _ _ _ w (d_ref l p f ss y d) z h = d_ref l p f ss z (d_follows _ _ _ _ _ (good_rule p) d z (more_rule p z h))
d_follows _ _ _ _ _ w (d_then l a b f g ss zs y d e) z h =
    f_then l a b f g ss zs y d (opened _ _ _ _ _ e) (d_follows _ _ _ _ _ (and_parts (good a) _ w).0 d) (d_follows _ _ _ _ _ (and_parts (good b) _ (and_parts (good a) _ w).1).0 e) z h
d_follows _ _ _ _ _ w (d_left l a b f ss y q d) z h =
    let u = and_parts (good a && good b) _ w in
    let v = and_parts (firm a && firm b) _ u.1 in
    d_left l a b f ss z (starts_more a ss y z true (firm_some a ss y (and_parts (firm a) (firm b) v.0).0 (opened _ _ _ _ _ d)) q) (d_follows _ _ _ _ _ (and_parts (good a) (good b) u.0).0 d z (or_parts (more a z) (more b z) h).0)
d_follows _ _ _ _ _ w (d_right l a b f ss y q d) z h =
    let u = and_parts (good a && good b) _ w in
    let v = and_parts (firm a && firm b) _ u.1 in
    d_right l a b f ss z (starts_more a ss y z false (firm_some b ss y (and_parts (firm a) (firm b) v.0).1 (opened _ _ _ _ _ d)) q) (d_follows _ _ _ _ _ (and_parts (good a) (good b) u.0).1 d z (or_parts (more a z) (more b z) h).1)
d_follows _ _ _ _ _ w (d_stop l r y q) z h = d_stop l r z (or_parts (starts r z) (more r z) h).0
d_follows _ _ _ _ _ w (d_go l r f ss y q d) z h =
    d_go l r f ss z (starts_more r ss y z true (firm_some (Then r (Many r)) ss y (firm_go r (and_parts (good r) (firm r) w).1) (opened _ _ _ _ _ d)) q) (d_follows _ _ _ _ _ (good_go r w) d z (more_go r z h))
d_follows _ _ _ _ _ w (d_no l r y q) z h = d_no l r z (or_parts (starts r z) (more r z) h).0
d_follows _ _ _ _ _ w (d_yes l r f ss y q d) z h =
    d_yes l r f ss z (starts_more r ss y z true (firm_some r ss y (and_parts (good r) (firm r) w).1 (opened _ _ _ _ _ d)) q) (d_follows _ _ _ _ _ (and_parts (good r) (firm r) w).0 d z (or_parts (starts r z) (more r z) h).1)
d_follows _ _ _ _ _ w (d_deeper l r f ss y d) z h = d_deeper l r f ss z (d_follows _ _ _ _ _ w d z h)

within_read : (l : ℕ) (r : Rule) (us : List Token) (k : Kind) (zs : List Token) → Reads l r us (Fault k zs) → length zs ≤ length us
within_read l r us k zs h = let x = local l r us (Fault k zs) h in omega (arith, ap length x.all, length-append x.front zs)

read_le : (l : ℕ) (r : Rule) (us : List Token) (f : Forest) (zs : List Token) → Reads l r us (Read f zs) → length zs ≤ length us
read_le l r us f zs h = let x = local l r us (Read f zs) h in omega (arith, ap length x.all, length-append x.front zs)

bool_or : (b : Bool) → (b ≡ true) ⊎ (b ≡ false)
bool_or true = inl refl
bool_or false = inr refl

and_false : (a b : Bool) → (a && b) ≡ false → a ≡ true → b ≡ false
and_false true b h e = h
and_false false b h e = cc

and_second : (a b c : Bool) → ((a && b) || c) ≡ true → c ≡ false → (a ≡ true) × (b ≡ true)
and_second true true c h e = (refl, refl)
and_second true false c h e = cc
and_second false b c h e = cc

or_second : (a b : Bool) → (a || b) ≡ true → a ≡ false → b ≡ true
or_second true b h e = cc
or_second false b h e = h

neither : (a b : Bool) → (not a && not b) ≡ true → (a || b) ≡ true → ⊥
neither true b h e = cc
neither false true h e = cc
neither false false h e = cc

-- what may be left out is left out where the next token can't begin it
abbrev Idle : List Token → Outcome → Type 0
Idle ts o = (f : Forest) × (o ≡ Read f ts)

idle_then : (ts us zs : List Token) (f g : Forest) → Idle ts (Read f us) → (us ≡ ts → Idle us (Read g zs)) → Idle ts (Read (f +++ g) zs)
idle_then ts us zs f g x y = let e : us ≡ ts = cc (x.1) in let z = y e in (f +++ g, cc (z.1, e))

idle_same : (ts us : List Token) (f : Forest) → Idle ts (Read f us) → us ≡ ts
idle_same ts us f x = cc (x.1)

idle_node : (p : Part) (ts zs : List Token) (f : Forest) → Idle ts (Read f zs) → Idle ts (Read (node p f none) zs)
idle_node p ts zs f x = (node p f none, cc (x.1))

idle_fault : {A : Type 0} (ts zs : List Token) (k : Kind) → Idle ts (Fault k zs) → A
idle_fault ts zs k x = cc (x.1)

false_true : {A : Type 0} (b : Bool) → b ≡ false → b ≡ true → A
false_true b h e = cc (h, e)

-- the premises for the halves of a sequence
pub record Halves (a b : Rule) (ts : List Token) : Type 0 where
  pub good_a : good a ≡ true
  pub good_b : good b ≡ true
  pub may_a : nullable a ≡ true
  pub may_b : nullable b ≡ true
  pub not_a : starts a ts ≡ false
  pub not_b : starts b ts ≡ false

halves : (a b : Rule) (ts : List Token) → good (Then a b) ≡ true → nullable (Then a b) ≡ true → starts (Then a b) ts ≡ false → Halves a b ts
halves a b ts w n s =
    let u = and_parts (good a) _ w in
    let v = and_parts (good b) _ u.1 in
    let m = and_parts (nullable a) (nullable b) n in
    let q = or_parts (nullable a && starts b ts) (starts a ts) s in
    record { good_a = u.0; good_b = v.0; may_a = m.0; may_b = m.1; not_a = q.1; not_b = and_false _ _ q.0 m.0 }

not_again : (b : Rule) (us ts : List Token) → starts b ts ≡ false → us ≡ ts → starts b us ≡ false
not_again b us ts h e = subst (λ (w : List Token). starts b w ≡ false) (sym e) h

no_choice : {A : Type 0} (a b : Rule) → good (Either a b) ≡ true → nullable (Either a b) ≡ true → A
no_choice a b w n = absurd (neither (nullable a) (nullable b) (and_parts (firm a && firm b) _ (and_parts (good a && good b) _ w).1).0 n)

no_left : {A : Type 0} (a b : Rule) (ts : List Token) → starts (Either a b) ts ≡ false → starts a ts ≡ true → A
no_left a b ts s e = false_true (starts a ts) (or_parts (starts a ts) (starts b ts) s).0 e

idle : (l : ℕ) (r : Rule) (ts : List Token) (o : Outcome) → Reads l r ts o → good r ≡ true → nullable r ≡ true → starts r ts ≡ false → Idle ts o
idle _ _ _ _ (word_read l k c t ts e b) w n s = false_true _ refl n
idle _ _ _ _ (word_unfit l k c t ts v e b) w n s = false_true _ refl n
idle _ _ _ _ (word_bad l k c ts e) w n s = false_true _ refl n
idle _ _ _ _ (ref_read l p ts zs f h) w n s = idle_node p ts zs f (idle l (rule p) ts (Read f zs) h (good_rule p) (nullable_rule p ∙ n) (starts_rule p ts ∙ s))
idle _ _ _ _ (ref_fault l p ts zs k h) w n s = idle_fault ts zs k (idle l (rule p) ts (Fault k zs) h (good_rule p) (nullable_rule p ∙ n) (starts_rule p ts ∙ s))
idle _ _ _ _ (then_read l a b ts us zs f g x y) w n s =
    let q = halves a b ts w n s in
    idle_then ts us zs f g (idle l a ts (Read f us) x q.good_a q.may_a q.not_a) (λ e. idle l b us (Read g zs) y q.good_b q.may_b (not_again b us ts q.not_b e))
idle _ _ _ _ (then_first l a b ts zs k x) w n s = let q = halves a b ts w n s in idle_fault ts zs k (idle l a ts (Fault k zs) x q.good_a q.may_a q.not_a)
idle _ _ _ _ (then_second l a b ts us zs f k x y) w n s =
    let q = halves a b ts w n s in
    idle_fault us zs k (idle l b us (Fault k zs) y q.good_b q.may_b (not_again b us ts q.not_b (idle_same ts us f (idle l a ts (Read f us) x q.good_a q.may_a q.not_a))))
idle _ _ _ _ (left l a b ts o e h) w n s = no_left a b ts s e
idle _ _ _ _ (right l a b ts o e h) w n s = no_choice a b w n
idle _ _ _ _ (stop l r ts e) w n s = (none, refl)
idle _ _ _ _ (go l r ts o e h) w n s = false_true (starts r ts) s e
idle _ _ _ _ (no l r ts e) w n s = (none, refl)
idle _ _ _ _ (yes l r ts o e h) w n s = false_true (starts r ts) s e
idle _ _ _ _ (deeper l r ts o h) w n s = idle (suc l) r ts o h w n s

-- what the next token can begin takes it
same_length : (us ts : List Token) → us ≡ ts → length us ≡ length ts
same_length us ts e = ap length e

eats_then : (a b : Rule) (ts us zs : List Token) (f : Forest) → length zs ≤ length us → (starts a ts ≡ true → length us < length ts) → (nullable a ≡ true → starts a ts ≡ false → Idle ts (Read f us)) → (us ≡ ts → starts b us ≡ true → length zs < length us) → starts (Then a b) ts ≡ true → (starts a ts ≡ true) ⊎ (starts a ts ≡ false) → length zs < length ts
eats_then a b ts us zs f q x i y s (inl e) = omega (arith, q, x e)
eats_then a b ts us zs f q x i y s (inr e) =
    let n = and_second (nullable a) (starts b ts) (starts a ts) s e in
    let z = i n.0 e in
    let d : us ≡ ts = cc (z.1) in
    omega (arith, same_length us ts d, y d (subst (λ (w : List Token). starts b w ≡ true) (sym d) n.1))

eats : (l : ℕ) (r : Rule) (ts us : List Token) (f : Forest) → Reads l r ts (Read f us) → good r ≡ true → starts r ts ≡ true → length us < length ts
eats _ _ _ _ _ (word_read l k c t ts e b) w s = omega arith
eats _ _ _ _ _ (ref_read l p ts zs f h) w s = eats _ _ _ _ _ h (good_rule p) (starts_rule p ts ∙ s)
eats _ _ _ _ _ (then_read l a b ts us zs f g x y) w s =
    let u = and_parts (good a) _ w in
    let v = and_parts (good b) _ u.1 in
    eats_then a b ts us zs f (read_le l b us g zs y) (λ e. eats _ _ _ _ _ x u.0 e) (λ n e. idle l a ts (Read f us) x u.0 n e) (λ d e. eats _ _ _ _ _ y v.0 e) s (bool_or (starts a ts))
eats _ _ _ _ _ (left l a b ts _ e h) w s = eats _ _ _ _ _ h (and_parts (good a) (good b) (and_parts (good a && good b) _ w).0).0 e
eats _ _ _ _ _ (right l a b ts _ e h) w s = eats _ _ _ _ _ h (and_parts (good a) (good b) (and_parts (good a && good b) _ w).0).1 (or_second _ _ s e)
eats _ _ _ _ _ (stop l r ts e) w s = cc
eats _ _ _ _ _ (go l r ts _ e h) w s = eats _ _ _ _ _ h (good_go r w) (go_starts r ts e)
eats _ _ _ _ _ (no l r ts e) w s = cc
eats _ _ _ _ _ (yes l r ts _ e h) w s = eats _ _ _ _ _ h (and_parts (good r) (firm r) w).0 e
eats _ _ _ _ _ (deeper l r ts _ h) w s = eats _ _ _ _ _ h w s

progress_first : (a b : Rule) (ts zs : List Token) → (starts a ts ≡ true → length zs < length ts) → (nullable a ≡ true → starts a ts ≡ false → Idle ts (Fault Bad zs)) → starts (Then a b) ts ≡ true → (starts a ts ≡ true) ⊎ (starts a ts ≡ false) → length zs < length ts
progress_first a b ts zs x i s (inl e) = x e
progress_first a b ts zs x i s (inr e) =
    let n = and_second (nullable a) (starts b ts) (starts a ts) s e in
    let z = i n.0 e in cc (z.1)

-- a bad token is never the one that began the rule
pub progress : (l : ℕ) (r : Rule) (ts zs : List Token) → Reads l r ts (Fault Bad zs) → good r ≡ true → starts r ts ≡ true → length zs < length ts
progress _ _ _ _ (word_bad l k c ts e) w s = cc
progress _ _ _ _ (ref_fault l p ts zs _ h) w s = progress _ _ _ _ h (good_rule p) (starts_rule p ts ∙ s)
progress _ _ _ zs (then_first l a b ts _ _ h) w s =
    let u = and_parts (good a) _ w in
    progress_first a b ts zs (λ e. progress _ _ _ _ h u.0 e) (λ n e. idle l a ts (Fault Bad zs) h u.0 n e) s (bool_or (starts a ts))
progress _ _ _ zs (then_second l a b ts us _ f _ x y) w s =
    let u = and_parts (good a) _ w in
    let v = and_parts (good b) _ u.1 in
    eats_then a b ts us zs f (within_read l b us Bad zs y) (λ e. eats l a ts us f x u.0 e) (λ n e. idle l a ts (Read f us) x u.0 n e) (λ d e. progress _ _ _ _ y v.0 e) s (bool_or (starts a ts))
progress _ _ _ _ (left l a b ts _ e h) w s = progress _ _ _ _ h (and_parts (good a) (good b) (and_parts (good a && good b) _ w).0).0 e
progress _ _ _ _ (right l a b ts _ e h) w s = progress _ _ _ _ h (and_parts (good a) (good b) (and_parts (good a && good b) _ w).0).1 (or_second _ _ s e)
progress _ _ _ _ (go l r ts _ e h) w s = progress _ _ _ _ h (good_go r w) (go_starts r ts e)
progress _ _ _ _ (yes l r ts _ e h) w s = progress _ _ _ _ h (and_parts (good r) (firm r) w).0 e
progress _ _ _ _ (deeper l r ts _ h) w s = progress _ _ _ _ h w s

progress_option : (l : ℕ) (r : Rule) (ts zs : List Token) → good r ≡ true → nullable r ≡ true → Reads l r ts (Fault Bad zs) → length zs < length ts
progress_option l r ts zs w n h = by (bool_or (starts r ts))
  where
    by : (starts r ts ≡ true) ⊎ (starts r ts ≡ false) → length zs < length ts
    by (inl e) = progress l r ts zs h w e
    by (inr e) = let z = idle l r ts (Fault Bad zs) h w n e in cc (z.1)

-- a rule that spells something before y, and nothing if it may
pub record Easy (l : ℕ) (r : Rule) (y : List Token) : Type 0 where
  pub forest : Forest
  pub spelled : List Spelled
  pub derives : Derives l r forest spelled y
  pub empty : nullable r ≡ true → spelled ≡ []

abbrev sample : ℕ → Class → Spelled
sample l c = record { token = record { class = c; value = value.Nothing; place = 0 }; level = l }

pub bool_false : (b : Bool) → (b ≡ true → ⊥) → b ≡ false
bool_false true h = absurd (h refl)
bool_false false h = refl

-- what b begins with could not go on with a
clear : (a b : Rule) (zs : List Spelled) (y : List Token) → apart_test (goers a) (starters b) ≡ true → Opened b zs y → more (Then a b) y ≡ false → more a (tokens zs ++ y) ≡ false
clear a b zs y w (inl o) h = subst (λ (v : List Spelled). more a (tokens v ++ y) ≡ false) (sym o.0) (more_then a b zs y (inl o) y h o.0)
clear a b zs y w (inr o) h = bool_false _ (λ e. more_clash a b w (tokens zs ++ y) e o.1)

clear_easy : (a b : Rule) (y : List Token) → (l : ℕ) (x : Easy l b y) → (nullable b ≡ true) ⊎ (apart_test (goers a) (starters b) ≡ true) → more (Then a b) y ≡ false → more a (tokens x.spelled ++ y) ≡ false
clear_easy a b y l x (inl o) h =
    let e = x.empty o in
    subst (λ (v : List Spelled). more a (tokens v ++ y) ≡ false) (sym e) (more_then a b x.spelled y (opened l b x.forest x.spelled y x.derives) y h e)
clear_easy a b y l x (inr w) h = clear a b x.spelled y w (opened l b x.forest x.spelled y x.derives) h

-- what a rule's parts spell easily
abbrev Given : (Part → Bool) → Type 0
Given ok = (l : ℕ) (p : Part) (y : List Token) → ok p ≡ true → next_in (more_part p) y ≡ false → Easy l (Ref p) y

easy_left : (l : ℕ) (a b : Rule) (y : List Token) → firm a ≡ true → firm b ≡ true → Easy l a y → Easy l (Either a b) y
easy_left l a b y fa fb x =
    record {
      forest = x.forest;
      spelled = x.spelled;
      derives = d_left l a b x.forest x.spelled y (firm_starts a x.spelled y fa (opened _ _ _ _ _ x.derives)) x.derives;
      empty = λ q. absurd (neither (nullable a) (nullable b) (and_from (firm a) (firm b) fa fb) q);
    }

easy_right : (l : ℕ) (a b : Rule) (y : List Token) → firm a ≡ true → firm b ≡ true → apart_test (starters a) (starters b) ≡ true → Easy l b y → Easy l (Either a b) y
easy_right l a b y fa fb t x =
    record {
      forest = x.forest;
      spelled = x.spelled;
      derives = d_right l a b x.forest x.spelled y (bool_false _ (λ e. starts_clash a b t (tokens x.spelled ++ y) e (firm_starts b x.spelled y fb (opened _ _ _ _ _ x.derives)))) x.derives;
      empty = λ q. absurd (neither (nullable a) (nullable b) (and_from (firm a) (firm b) fa fb) q);
    }

easy_choice : (l : ℕ) (a b : Rule) (y : List Token) (p q : Bool) → firm a ≡ true → firm b ≡ true → apart_test (starters a) (starters b) ≡ true → (p ≡ true → Easy l a y) → (q ≡ true → Easy l b y) → (p ≡ true) ⊎ (q ≡ true) → Easy l (Either a b) y
easy_choice l a b y p q fa fb t f g (inl e) = easy_left l a b y fa fb (f e)
easy_choice l a b y p q fa fb t f g (inr e) = easy_right l a b y fa fb t (g e)

easy_from : (ok : Part → Bool) → Given ok → (l : ℕ) (r : Rule) (y : List Token) → good r ≡ true → settled ok r ≡ true → more r y ≡ false → Easy l r y
easy_from ok given l (Word k cs) y w s h = let n = sample l (first_of cs) in record { forest = _; spelled = n ∷ []; derives = d_word l k cs n.token y (first_in cs w); empty = λ q. cc }
easy_from ok given l (Ref p) y w s h = given l p y s h
easy_from ok given l (Then a b) y w s h =
    let u = and_parts (good a) _ w in
    let v = and_parts (good b) _ u.1 in
    let c = and_parts (settled ok a) (settled ok b) s in
    let x = easy_from ok given l b y v.0 c.1 (or_parts (nullable b && more a y) (more b y) h).1 in
    let z = easy_from ok given l a (tokens x.spelled ++ y) u.0 c.0 (clear_easy a b y l x (or_cases _ _ v.1) h) in
    record {
      forest = z.forest +++ x.forest;
      spelled = z.spelled ++ x.spelled;
      derives = d_then l a b z.forest x.forest z.spelled x.spelled y z.derives x.derives;
      empty = λ q. let p = and_parts (nullable a) (nullable b) q in ap (λ (s : List Spelled). s ++ x.spelled) (z.empty p.0) ∙ x.empty p.1;
    }
easy_from ok given l (Either a b) y w s h =
    let u = and_parts (good a && good b) _ w in
    let v = and_parts (firm a && firm b) _ u.1 in
    let f = and_parts (firm a) (firm b) v.0 in
    let g = and_parts (good a) (good b) u.0 in
    let m = or_parts (more a y) (more b y) h in
    easy_choice l a b y (settled ok a) (settled ok b) f.0 f.1 v.1 (λ e. easy_from ok given l a y g.0 e m.0) (λ e. easy_from ok given l b y g.1 e m.1) (or_cases _ _ s)
easy_from ok given l (Many r) y w s h = record { forest = none; spelled = []; derives = d_stop l r y (or_parts (starts r y) (more r y) h).0; empty = λ q. refl }
easy_from ok given l (Maybe r) y w s h = record { forest = none; spelled = []; derives = d_no l r y (or_parts (starts r y) (more r y) h).0; empty = λ q. refl }
easy_from ok given l (Deeper r) y w s h =
    let x = easy_from ok given (suc l) r y w s h in
    record { forest = x.forest; spelled = x.spelled; derives = d_deeper l r x.forest x.spelled y x.derives; empty = x.empty }

easy_node : (l : ℕ) (p : Part) (y : List Token) → Easy l (rule p) y → Easy l (Ref p) y
easy_node l p y x = record { forest = node p x.forest none; spelled = x.spelled; derives = d_ref l p x.forest x.spelled y x.derives; empty = λ q. x.empty (nullable_rule p ∙ q) }

lt_of_test : (m n : ℕ) → nat_lt m n ≡ true → m < n
lt_of_test m n h = grind (arith, common_steps)

easy_below : (n : ℕ) (l : ℕ) (p : Part) (y : List Token) → rank p < n → next_in (more_part p) y ≡ false → Easy l (Ref p) y
easy_below zero l p y b h = absurd (omega (arith, b))
easy_below (suc n) l p y b h =
    easy_node l p y (easy_from (lower (rank p)) (λ m q z e g. easy_below n m q z (omega (arith, b, lt_of_test (rank q) (rank p) e)) g) l (rule p) y (good_rule p) (settled_rule p) (more_rule p y h))

pub easy : (l : ℕ) (r : Rule) (y : List Token) → good r ≡ true → more r y ≡ false → Easy l r y
easy l r y w h = easy_from (λ p. true) (λ m q z e g. easy_below (suc (rank q)) m q z (omega arith) g) l r y w (settled_all r) h

-- the next token is refused
abbrev pub TooLow : Reason → List Spelled → List Token → Type 0
TooLow w [] zs = ⊥
TooLow w (s ∷ ss) [] = ⊥
TooLow w (s ∷ ss) (t ∷ zs) = (s.token ≡ t) × (refused s.level s.token ≡ Some w)

low_append : (w : Reason) (ss us : List Spelled) (zs : List Token) → TooLow w ss zs → TooLow w (ss ++ us) zs
low_append w [] us zs h = absurd h
low_append w (s ∷ ss) us [] h = absurd h
low_append w (s ∷ ss) us (t ∷ zs) h = h

low_like : (w : Reason) (ss : List Spelled) (y zs : List Token) → TooLow w ss zs → Like zs (tokens ss ++ y)
low_like w [] y zs h = absurd h
low_like w (s ∷ ss) y [] h = absurd h
low_like w (s ∷ ss) y (t ∷ zs) h = sym h.0

pub record Viable (l : ℕ) (r : Rule) (ts : List Token) (k : Kind) (zs y : List Token) : Type 0 where
  pub front : List Spelled
  pub back : List Spelled
  pub forest : Forest
  pub all : ts ≡ tokens front ++ zs
  pub within : Within front
  pub derives : Derives l r forest (front ++ back) y
  pub deep : (w : Reason) → k ≡ Unfit w → TooLow w back zs

v_map : (l m : ℕ) (q r : Rule) (ts : List Token) (k : Kind) (zs y : List Token) → (g : Forest → Forest) → ((f : Forest) (ss : List Spelled) → Derives l q f ss y → Derives m r (g f) ss y) → Viable l q ts k zs y → Viable m r ts k zs y
v_map l m q r ts k zs y g w x = record { front = x.front; back = x.back; forest = g x.forest; all = x.all; within = x.within; derives = w x.forest (x.front ++ x.back) x.derives; deep = x.deep }

v_first : (l : ℕ) (a b : Rule) (ts : List Token) (k : Kind) (zs y : List Token) (e : Easy l b y) → Viable l a ts k zs (tokens e.spelled ++ y) → Viable l (Then a b) ts k zs y
v_first l a b ts k zs y e x =
    record {
      front = x.front;
      back = x.back ++ e.spelled;
      forest = x.forest +++ e.forest;
      all = x.all;
      within = x.within;
      derives = subst (λ (w : List Spelled). Derives l (Then a b) (x.forest +++ e.forest) w y) (append_assoc x.front x.back e.spelled) (d_then l a b x.forest e.forest (x.front ++ x.back) e.spelled y x.derives e.derives);
      deep = λ w q. low_append w x.back e.spelled zs (x.deep w q);
    }

-- what a read stands before what b goes on with
joined : (l : ℕ) (a b : Rule) (f g : Forest) (ss front back : List Spelled) (us zs y : List Token) (k : Kind) → good (Then a b) ≡ true → more (Then a b) y ≡ false → Derives l a f ss us → us ≡ tokens front ++ zs → Reads l b us (Fault k zs) → Derives l b g (front ++ back) y → ((w : Reason) → k ≡ Unfit w → TooLow w back zs) → Derives l a f ss (tokens (front ++ back) ++ y)
joined l a b f g ss (s ∷ front) back us zs y k w h d e x z low = d_like l a f ss us _ (subst (λ (v : List Token). Like v (tokens ((s ∷ front) ++ back) ++ y)) (sym e) refl) d
joined l a b f g ss [] back us zs y (Unfit why) w h d e x z low = d_like l a f ss us _ (subst (λ (v : List Token). Like v (tokens back ++ y)) (sym e) (low_like why back y zs (low why refl))) d
joined l a b f g ss [] back us zs y Bad w h d e x z low =
    let u = and_parts (good a) _ w in
    let v = and_parts (good b) _ u.1 in
    by (or_cases _ _ v.1) u.0 v.0
  where
    by : (nullable b ≡ true) ⊎ (apart_test (goers a) (starters b) ≡ true) → good a ≡ true → good b ≡ true → Derives l a f ss (tokens back ++ y)
    by (inl o) ga gb = absurd (omega (arith, progress_option l b us zs gb o x, ap length e))
    by (inr t) ga gb = d_follows l a f ss us ga d (tokens back ++ y) (clear a b back y t (opened l b g back y z) h)

v_second : (l : ℕ) (a b : Rule) (ts us : List Token) (f : Forest) (k : Kind) (zs y : List Token) → good (Then a b) ≡ true → more (Then a b) y ≡ false → Sound l a ts f us → Reads l b us (Fault k zs) → Viable l b us k zs y → Viable l (Then a b) ts k zs y
v_second l a b ts us f k zs y w h s r x =
    record {
      front = s.spelled ++ x.front;
      back = x.back;
      forest = f +++ x.forest;
      all = s.all ∙ (ap (λ (v : List Token). tokens s.spelled ++ v) x.all ∙ sym (tokens_append s.spelled x.front zs));
      within = within_append s.spelled x.front s.within x.within;
      derives = subst (λ (v : List Spelled). Derives l (Then a b) (f +++ x.forest) v y) (sym (append_assoc s.spelled x.front x.back)) (d_then l a b f x.forest s.spelled (x.front ++ x.back) y (joined l a b f x.forest s.spelled x.front x.back us zs y k w h s.derives x.all r x.derives x.deep) x.derives);
      deep = x.deep;
    }

bad_unfit : {A : Type 0} (w : Reason) → Bad ≡ Unfit w → A
bad_unfit w e = cc

same_reason : (l : ℕ) (t : Token) (v w : Reason) → refused l t ≡ Some v → Unfit v ≡ Unfit w → refused l t ≡ Some w
same_reason l t v w b e = cc (b, e)

pub viable : (l : ℕ) (r : Rule) (ts : List Token) (k : Kind) (zs : List Token) → Reads l r ts (Fault k zs) → (y : List Token) → good r ≡ true → more r y ≡ false → Viable l r ts k zs y
viable _ _ _ _ _ (word_unfit l k c t ts v e b) y w h = record { front = []; back = record { token = t; level = l } ∷ []; forest = _; all = refl; within = tt; derives = d_word l k c t y (e); deep = λ w q. (refl, same_reason l t v w b q) }
viable _ _ _ _ _ (word_bad l k c ts e) y w h = let n = sample l (first_of c) in record { front = []; back = n ∷ []; forest = _; all = refl; within = tt; derives = d_word l k c n.token y (first_in c w); deep = λ w q. bad_unfit w q }
viable _ _ _ _ _ (ref_fault l p ts zs k x) y w h = v_map l l (rule p) (Ref p) ts k zs y (λ f. node p f none) (λ f ss d. d_ref l p f ss y d) (viable _ _ _ _ _ x y (good_rule p) (more_rule p y h))
viable _ _ _ _ _ (then_first l a b ts zs k x) y w h =
    let u = and_parts (good a) _ w in
    let v = and_parts (good b) _ u.1 in
    let e = easy l b y v.0 (or_parts (nullable b && more a y) (more b y) h).1 in
    v_first l a b ts k zs y e (viable _ _ _ _ _ x (tokens e.spelled ++ y) u.0 (clear_easy a b y l e (or_cases _ _ v.1) h))
viable _ _ _ _ _ (then_second l a b ts us zs f k x z) y w h =
    let u = and_parts (good a) _ w in
    let v = and_parts (good b) _ u.1 in
    v_second l a b ts us f k zs y w h (sound l a ts f us x) z (viable _ _ _ _ _ z y v.0 (or_parts (nullable b && more a y) (more b y) h).1)
viable _ _ _ k zs (left l a b ts _ e x) y w h =
    let u = and_parts (good a && good b) _ w in
    let v = and_parts (firm a && firm b) _ u.1 in
    v_map l l a (Either a b) ts k zs y (λ f. f) (λ f ss d. d_left l a b f ss y (firm_starts a ss y (and_parts (firm a) (firm b) v.0).0 (opened _ _ _ _ _ d)) d) (viable _ _ _ _ _ x y (and_parts (good a) (good b) u.0).0 (or_parts (more a y) (more b y) h).0)
viable _ _ _ k zs (right l a b ts _ e x) y w h =
    let u = and_parts (good a && good b) _ w in
    let v = and_parts (firm a && firm b) _ u.1 in
    let fb = (and_parts (firm a) (firm b) v.0).1 in
    v_map l l b (Either a b) ts k zs y (λ f. f) (λ f ss d. d_right l a b f ss y (bool_false _ (λ q. starts_clash a b v.1 (tokens ss ++ y) q (firm_starts b ss y fb (opened _ _ _ _ _ d)))) d) (viable _ _ _ _ _ x y (and_parts (good a) (good b) u.0).1 (or_parts (more a y) (more b y) h).1)
viable _ _ _ k zs (go l r ts _ e x) y w h =
    v_map l l (Then r (Many r)) (Many r) ts k zs y (λ f. f) (λ f ss d. d_go l r f ss y (starts_go r _ (firm_starts (Then r (Many r)) ss y (firm_go r (and_parts (good r) (firm r) w).1) (opened _ _ _ _ _ d))) d) (viable _ _ _ _ _ x y (good_go r w) (more_go r y h))
viable _ _ _ k zs (yes l r ts _ e x) y w h =
    v_map l l r (Maybe r) ts k zs y (λ f. f) (λ f ss d. d_yes l r f ss y (firm_starts r ss y (and_parts (good r) (firm r) w).1 (opened _ _ _ _ _ d)) d) (viable _ _ _ _ _ x y (and_parts (good r) (firm r) w).0 (or_parts (starts r y) (more r y) h).1)
viable _ _ _ k zs (deeper l r ts _ x) y w h = v_map (suc l) l r (Deeper r) ts k zs y (λ f. f) (λ f ss d. d_deeper l r f ss y d) (viable _ _ _ _ _ x y w h)
