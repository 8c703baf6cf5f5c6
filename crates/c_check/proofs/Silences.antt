-- Nothing is found, and nothing is said, where a part breaks a rule.
use Rattle.std.proofs.Common.{◌≡◌, ℕ, suc, ◌+◌, List, [], ◌∷◌, ◌++◌, ◌∙◌, Some, None, true, false, refl, length, ap, sym, append-nil, append_assoc, length-append, arith}
use Rattle.std.specs.Prelude.{nat_lt}
use Rattle.c_rules.specs.declared.breach.Breach.{Breach}
use Rattle.c_rules.specs.Judged.{sound, unless_broken}

not_more : (m n : ℕ) → n ≡ m → nat_lt m n ≡ true → ⊥
not_more m n e h = grind (arith, e, h)

not_less : (m k n : ℕ) → n ≡ m + suc k → nat_lt m n ≡ false → ⊥
not_less m k n e h = grind (arith, e, h)

-- whether a list has more breaches than before, where these were added
more_of_none : (old new : List Breach) → new ≡ old ++ [] → nat_lt (length old) (length new) ≡ true → ⊥
more_of_none old new e more = not_more (length old) (length new) (ap length (e ∙ append-nil old)) more

none_of_more : (old new : List Breach) (f : Breach) (fs : List Breach) → new ≡ old ++ f ∷ fs → nat_lt (length old) (length new) ≡ false → ⊥
none_of_more old new f fs e none = not_less (length old) (length fs) (length new) (ap length e ∙ length-append old (f ∷ fs)) none

-- nothing is found where there are more, and else what there is
pub broken : {A : Type 0} (x : A) (old new rules : List Breach) → new ≡ old ++ rules → nat_lt (length old) (length new) ≡ true → None ≡ sound rules x
broken x old new [] e more = absurd (more_of_none old new e more)
broken x old new (f ∷ fs) e more = refl

pub unbroken : {A : Type 0} (x : A) (old new rules : List Breach) → new ≡ old ++ rules → nat_lt (length old) (length new) ≡ false → Some x ≡ sound rules x
unbroken x old new [] e none = refl
unbroken x old new (f ∷ fs) e none = absurd (none_of_more old new f fs e none)

-- what was noted of the parts, and then of the name, is all where the parts break a rule
pub silent : (old mid new parts name rules : List Breach) → mid ≡ old ++ parts → nat_lt (length old) (length mid) ≡ true → new ≡ mid ++ name → new ≡ old ++ (parts ++ name ++ unless_broken parts rules)
silent old mid new [] name rules e more n = absurd (more_of_none old mid e more)
silent old mid new (f ∷ fs) name rules e more n =
    n ∙ ap (λ (z : List Breach). z ++ name) e ∙ append_assoc old (f ∷ fs) name ∙ ap (λ (z : List Breach). old ++ z) (sym (append-nil ((f ∷ fs) ++ name)))

-- what was noted of the first rules is all where one of them is broken, and else the others follow
pub unsaid : (old new first rules : List Breach) → new ≡ old ++ first → nat_lt (length old) (length new) ≡ true → new ≡ old ++ (first ++ unless_broken first rules)
unsaid old new [] rules e more = absurd (more_of_none old new e more)
unsaid old new (f ∷ fs) rules e more = e ∙ ap (λ (z : List Breach). old ++ z) (sym (append-nil (f ∷ fs)))

pub told : (old mid new first rules : List Breach) → mid ≡ old ++ first → nat_lt (length old) (length mid) ≡ false → new ≡ mid ++ rules → new ≡ old ++ (first ++ unless_broken first rules)
told old mid new [] rules e none n = n ∙ ap (λ (z : List Breach). z ++ rules) e ∙ append_assoc old [] rules
told old mid new (f ∷ fs) rules e none n = absurd (none_of_more old mid f fs e none)
