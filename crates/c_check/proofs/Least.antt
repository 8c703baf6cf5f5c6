-- The first of the breaches is the least of them, and a list has one least breach.
use Rattle.std.proofs.Common.{◌≡◌, ℕ, List, [], ◌∷◌, Some, None, refl, true, false, Bool, T, ap, sym, ◌∙◌, subst, arith, inl, inr}
use Rattle.std.specs.Prelude.{fold, get_or, if◌then◌else◌, ◌⊎◌, unwrap_or, is_some, nat_lt, ◌==◌, ◌||◌, ◌&&◌}
use Rattle.c_tree.specs.declared.kind.Kind.{Kind}
use Rattle.c_tree.specs.declared.kind.Kind.TheVariants as kind
use Rattle.c_rules.specs.declared.breach.Breach.{Breach}
use Rattle.c_check.specs.Program.{first, sooner, precedes, precedence, Among, NonePrecedes, IsLeast}

pub never : false ≡ true → ⊥
never e = subst (λ b. T b) (sym e) tt

-- ---- where there is no first breach, there is none

first_some : (f : Breach) (gs : List Breach) → is_some (fold sooner (Some f) gs) ≡ true
first_some f [] = refl
first_some f (g ∷ gs) = first_some (if precedes g f then g else f) gs

pub first_none : (fs : List Breach) → first fs ≡ None → fs ≡ []
first_none [] e = refl
first_none (f ∷ fs) e = absurd (never (sym (ap is_some e) ∙ first_some f fs))

-- ---- the order, on places and ranks

abbrev before : ℕ → ℕ → ℕ → ℕ → Bool
before a r b s = nat_lt a b || ((a == b) && nat_lt r s)

later_numbers : (a r b s c t : ℕ) → before b s a r ≡ true → before b s c t ≡ false → before a r c t ≡ false
later_numbers a r b s c t p q = grind arith

keeps_numbers : (a r b s c t : ℕ) → before b s a r ≡ false → before a r c t ≡ false → before b s c t ≡ false
keeps_numbers a r b s c t p q = grind arith

same_numbers : (a r : ℕ) → before a r a r ≡ false
same_numbers a r = grind arith

-- neither precedes the other only where both numbers are the same
one_at : (a r b s : ℕ) → before a r b s ≡ false → before b s a r ≡ false → a ≡ b
one_at a r b s p q = grind arith

one_precedence : (a r b s : ℕ) → before a r b s ≡ false → before b s a r ≡ false → r ≡ s
one_precedence a r b s p q = grind arith

later : (f g h : Breach) → precedes g f ≡ true → precedes g h ≡ false → precedes f h ≡ false
later f g h p q = later_numbers f.at (precedence f.kind) g.at (precedence g.kind) h.at (precedence h.kind) p q

keeps : (f g h : Breach) → precedes g f ≡ false → precedes f h ≡ false → precedes g h ≡ false
keeps f g h p q = keeps_numbers f.at (precedence f.kind) g.at (precedence g.kind) h.at (precedence h.kind) p q

irreflexive : (f : Breach) → precedes f f ≡ false
irreflexive f = same_numbers f.at (precedence f.kind)

-- ---- the first is least

abbrev Stands : Breach → Breach → List Breach → Type 0
Stands f h gs = ((h ≡ f) ⊎ Among gs h) × (precedes f h ≡ false) × NonePrecedes gs h

among : (f g h : Breach) (gs : List Breach) → ((h ≡ f) ⊎ Among gs h) → ((h ≡ f) ⊎ Among (g ∷ gs) h)
among f g h gs (inl p) = inl p
among f g h gs (inr p) = inr (inr p)

chosen : (f g h : Breach) (gs : List Breach) (b : Bool) → precedes g f ≡ b
    → (fold sooner (Some g) gs ≡ Some h → Stands g h gs) → (fold sooner (Some f) gs ≡ Some h → Stands f h gs)
    → fold sooner (Some (if b then g else f)) gs ≡ Some h → Stands f h (g ∷ gs)
chosen f g h gs true p of_g of_f e = let s = of_g e in (inr s.0, later f g h p s.1, (s.1, s.2))
chosen f g h gs false p of_g of_f e = let s = of_f e in (among f g h gs s.0, s.1, (keeps f g h p s.1, s.2))

stands : (f h : Breach) (gs : List Breach) → fold sooner (Some f) gs ≡ Some h → Stands f h gs
stands f h [] e =
    let p : f ≡ h = ap (λ o. unwrap_or o f) e in
    (inl (sym p), subst (λ x. precedes f x ≡ false) p (irreflexive f), tt)
stands f h (g ∷ gs) e = chosen f g h gs (precedes g f) refl (stands g h gs) (stands f h gs) e

pub first_least : (fs : List Breach) (h : Breach) → first fs ≡ Some h → IsLeast fs h
first_least [] h e = absurd (never (ap is_some e))
first_least (f ∷ fs) h e = let s = stands f h fs e in (s.0, (s.1, s.2))

-- ---- there is one

-- the rules in the order of the table
kinds : List Kind
kinds =
    kind.NotYet ∷ kind.TextLimit ∷ kind.Syntax ∷ kind.TooDeep ∷ kind.NumberRange ∷ kind.UnknownName ∷ kind.Redeclared ∷ kind.NoMain ∷ kind.BadMain
    ∷ kind.NotScalar ∷ kind.NotInteger ∷ kind.NotPointer ∷ kind.NotStruct ∷ kind.NotPlace ∷ kind.TypeMismatch ∷ kind.ArgumentCount ∷ kind.CallPlace
    ∷ kind.MallocPlace ∷ kind.ReturnValue ∷ kind.LoopWord ∷ kind.ArraySize ∷ kind.IncompleteType ∷ kind.PrototypeDiffers ∷ kind.Undefined
    ∷ kind.FormatMismatch ∷ kind.Datatype ∷ []

at_precedence : (k : Kind) → get_or kinds (precedence k) kind.NotYet ≡ k
unfolding kinds
at_precedence kind.NotYet = refl
at_precedence _ = refl

kind_one : (k l : Kind) → precedence k ≡ precedence l → k ≡ l
kind_one k l e = sym (at_precedence k) ∙ ap (λ n. get_or kinds n kind.NotYet) e ∙ at_precedence l

none_before : (fs : List Breach) (f g : Breach) → Among fs f → NonePrecedes fs g → precedes f g ≡ false
none_before [] f g a n = absurd a
none_before (h ∷ fs) f g (inl e) n = subst (λ x. precedes x g ≡ false) (sym e) n.0
none_before (h ∷ fs) f g (inr a) n = none_before fs f g a n.1

pub one_least : (fs : List Breach) (f g : Breach) → IsLeast fs f → IsLeast fs g → f ≡ g
one_least fs f g p q =
    let a = none_before fs f g p.0 q.1 in
    let b = none_before fs g f q.0 p.1 in
    let at = one_at f.at (precedence f.kind) g.at (precedence g.kind) a b in
    let same = kind_one f.kind g.kind (one_precedence f.at (precedence f.kind) g.at (precedence g.kind) a b) in
    λ i. record { kind = same i; at = at i }
