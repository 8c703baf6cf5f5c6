-- The predictive meaning is the textbook's.
use Rattle.std.proofs.Common.{◌≡◌, ℕ, Bool, true, false, List, [], ◌++◌, refl, sym, ap, subst, arith, ◌∙◌, inl, inr, ◌||◌}
use Rattle.std.specs.Prelude.{◌&&◌}
use Rattle.std.proofs.lemmas.Bool.{and_parts, and_from, or_parts, or_left, or_right}
use Rattle.c_tree.specs.declared.token.Token.{Token}
use Rattle.c_grammar.specs.Grammar.{Program, Rule, Ref, Then, Either, Many, Maybe, rule}
use Rattle.c_grammar.specs.Meaning.{Forest, starts, nullable, Spelled, tokens, Derives, d_word, d_ref, d_then, d_left, d_right, d_stop, d_go, d_no, d_yes, d_deeper}
use Rattle.c_grammar.specs.Textbook.{Spells, s_word, s_ref, s_then, s_left, s_right, s_stop, s_go, s_no, s_yes, s_deeper, IsTextbook}
use Rattle.c_grammar.proofs.Tables.{ends, firm, sharp, enders, starters, apart_test, ends_clash, starts_clash, nullable_rule, starts_rule, sharp_rule, ends_rule}
use Rattle.c_grammar.proofs.Viable.{Opened, o_map, o_then, or_same, firm_starts, starts_go, firm_go, bool_false}

opened_book : (l : ℕ) (r : Rule) (f : Forest) (ss : List Spelled) (y : List Token) → Spells l r f ss y → Opened r ss y
opened_book _ _ _ _ _ (s_word l k c t y e) = inr (omega arith, e)
opened_book _ _ _ _ _ (s_ref l p f ss y h) = o_map (rule p) (Ref p) ss y (λ e. sym (nullable_rule p) ∙ e) (λ ts h. sym (starts_rule p ts) ∙ h) (opened_book _ _ _ _ _ h)
opened_book _ _ _ _ _ (s_then l a b f g ss zs y x z) = o_then a b ss zs y (opened_book _ _ _ _ _ x) (opened_book _ _ _ _ _ z)
opened_book _ _ _ _ _ (s_left l a b f ss y h) = o_map a (Either a b) ss y (λ e. or_left _ _ e) (λ ts e. or_left _ _ e) (opened_book _ _ _ _ _ h)
opened_book _ _ _ _ _ (s_right l a b f ss y h) = o_map b (Either a b) ss y (λ e. or_right _ _ e) (λ ts e. or_right _ _ e) (opened_book _ _ _ _ _ h)
opened_book _ _ _ _ _ (s_stop l r y) = inl (refl, refl)
opened_book _ _ _ _ _ (s_go l r f ss y h) = o_map (Then r (Many r)) (Many r) ss y (λ e. refl) (λ ts e. or_same (nullable r) (starts r ts) e) (opened_book _ _ _ _ _ h)
opened_book _ _ _ _ _ (s_no l r y e) = inl (refl, refl)
opened_book _ _ _ _ _ (s_yes l r f ss y h) = o_map r (Maybe r) ss y (λ e. refl) (λ ts e. e) (opened_book _ _ _ _ _ h)
opened_book _ _ _ _ _ (s_deeper l r f ss y h) = opened_book _ _ _ _ _ h

stops : (a b : Rule) (zs : List Spelled) (y : List Token) → apart_test (enders a) (starters b) ≡ true → Opened b zs y → ends (Then a b) y ≡ false → ends a (tokens zs ++ y) ≡ false
stops a b zs y w (inl o) h =
    let q = (or_parts (nullable b && ends a y) (ends b y) h).0 in
    let e : ends a y ≡ (nullable b && ends a y) = ap (λ (x : Bool). x && ends a y) (sym o.1) in
    subst (λ (v : List Spelled). ends a (tokens v ++ y) ≡ false) (sym o.0) (e ∙ q)
stops a b zs y w (inr o) h = bool_false _ (λ e. ends_clash a b w (tokens zs ++ y) e o.1)

pub to_derives : (l : ℕ) (r : Rule) (f : Forest) (ss : List Spelled) (y : List Token) → Spells l r f ss y → sharp r ≡ true → ends r y ≡ false → Derives l r f ss y
to_derives _ _ _ _ _ (s_word l k c t y e) w h = d_word l k c t y e
to_derives _ _ _ _ _ (s_ref l p f ss y x) w h = d_ref l p f ss y (to_derives _ _ _ _ _ x (sharp_rule p) (ends_rule p y h))
to_derives _ _ _ _ _ (s_then l a b f g ss zs y x z) w h =
    let u = and_parts (sharp a) _ w in
    let v = and_parts (sharp b) _ u.1 in
    d_then l a b f g ss zs y (to_derives _ _ _ _ _ x u.0 (stops a b zs y v.1 (opened_book _ _ _ _ _ z) h)) (to_derives _ _ _ _ _ z v.0 (or_parts (nullable b && ends a y) (ends b y) h).1)
to_derives _ _ _ _ _ (s_left l a b f ss y x) w h =
    let u = and_parts (sharp a && sharp b) _ w in
    let v = and_parts (firm a && firm b) _ u.1 in
    d_left l a b f ss y (firm_starts a ss y (and_parts (firm a) (firm b) v.0).0 (opened_book _ _ _ _ _ x)) (to_derives _ _ _ _ _ x (and_parts (sharp a) (sharp b) u.0).0 (or_parts (ends a y) (ends b y) h).0)
to_derives _ _ _ _ _ (s_right l a b f ss y x) w h =
    let u = and_parts (sharp a && sharp b) _ w in
    let v = and_parts (firm a && firm b) _ u.1 in
    d_right l a b f ss y (bool_false _ (λ q. starts_clash a b v.1 (tokens ss ++ y) q (firm_starts b ss y (and_parts (firm a) (firm b) v.0).1 (opened_book _ _ _ _ _ x)))) (to_derives _ _ _ _ _ x (and_parts (sharp a) (sharp b) u.0).1 (or_parts (ends a y) (ends b y) h).1)
to_derives _ _ _ _ _ (s_stop l r y) w h = d_stop l r y (or_parts (starts r y) (ends r y) h).0
to_derives _ _ _ _ _ (s_go l r f ss y x) w h =
    let u = and_parts (sharp r) _ w in
    let v = and_parts (firm r) _ u.1 in
    d_go l r f ss y (starts_go r _ (firm_starts (Then r (Many r)) ss y (firm_go r v.0) (opened_book _ _ _ _ _ x))) (to_derives _ _ _ _ _ x (and_from (sharp r) _ u.0 (and_from (sharp (Many r)) _ w v.1)) (λ i. (or_parts (starts r y) (ends r y) h).1 i || h i))
to_derives _ _ _ _ _ (s_no l r y e) w h = d_no l r y e
to_derives _ _ _ _ _ (s_yes l r f ss y x) w h =
    let u = and_parts (sharp r) (firm r) w in
    d_yes l r f ss y (firm_starts r ss y u.1 (opened_book _ _ _ _ _ x)) (to_derives _ _ _ _ _ x u.0 h)
to_derives _ _ _ _ _ (s_deeper l r f ss y x) w h = d_deeper l r f ss y (to_derives _ _ _ _ _ x w h)

pub from_derives : (l : ℕ) (r : Rule) (f : Forest) (ss : List Spelled) (y : List Token) → Derives l r f ss y → Spells l r f ss y
from_derives _ _ _ _ _ (d_word l k c t y e) = s_word l k c t y e
from_derives _ _ _ _ _ (d_ref l p f ss y x) = s_ref l p f ss y (from_derives _ _ _ _ _ x)
from_derives _ _ _ _ _ (d_then l a b f g ss zs y x z) = s_then l a b f g ss zs y (from_derives _ _ _ _ _ x) (from_derives _ _ _ _ _ z)
from_derives _ _ _ _ _ (d_left l a b f ss y e x) = s_left l a b f ss y (from_derives _ _ _ _ _ x)
from_derives _ _ _ _ _ (d_right l a b f ss y e x) = s_right l a b f ss y (from_derives _ _ _ _ _ x)
from_derives _ _ _ _ _ (d_stop l r y e) = s_stop l r y
from_derives _ _ _ _ _ (d_go l r f ss y e x) = s_go l r f ss y (from_derives _ _ _ _ _ x)
from_derives _ _ _ _ _ (d_no l r y e) = s_no l r y e
from_derives _ _ _ _ _ (d_yes l r f ss y e x) = s_yes l r f ss y (from_derives _ _ _ _ _ x)
from_derives _ _ _ _ _ (d_deeper l r f ss y x) = s_deeper l r f ss y (from_derives _ _ _ _ _ x)

pub is_textbook : IsTextbook
is_textbook f ss = (from_derives 0 (Ref Program) f ss [], λ x. to_derives 0 (Ref Program) f ss [] x refl refl)
