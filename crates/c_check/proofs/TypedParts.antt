-- A node that breaks no rule has a typed form, where each of its parts has.
use Rattle.std.proofs.Common.{◌≡◌, List, [], ◌∷◌, ◌++◌, length, Option, Some, None, true, false, refl, ap, arith}
use Rattle.std.specs.Prelude.{is_some, option_map}
use Rattle.c_rules.specs.declared.breach.Breach.{Breach}
use Rattle.c_rules.specs.Judged.{Judged, by, given, both, after, of_part, of_parts, as_part, pair_of, more, together, perhaps}
use Rattle.c_check.proofs.Least.{never}

abbrev pub IsTold : {A : Type 0} → Judged A → Type 0
IsTold j = j.breaches ≡ [] → is_some j.found ≡ true

abbrev pub AreTold : {A : Type 0} → List (Judged A) → Type 0
AreTold [] = Unit {0}
AreTold (j ∷ js) = IsTold j × AreTold js

-- ---- no breaches together are none in each

pub not_none : (f : Breach) (fs : List Breach) → f ∷ fs ≡ [] → ⊥
not_none f fs e = absurd (omega (arith, ap length e))

pub none_before : (fs gs : List Breach) → fs ++ gs ≡ [] → fs ≡ []
none_before [] gs e = refl
none_before (f ∷ fs) gs e = absurd (not_none f (fs ++ gs) e)

pub none_behind : (fs gs : List Breach) → fs ++ gs ≡ [] → gs ≡ []
none_behind [] gs e = e
none_behind (f ∷ fs) gs e = absurd (not_none f (fs ++ gs) e)

-- ---- forms

pub both_some : {A B : Type 0} (a : Option A) (b : Option B) → is_some a ≡ true → is_some b ≡ true → is_some (both a b) ≡ true
both_some None b p q = p
both_some (Some a) None p q = q
both_some (Some a) (Some b) p q = refl

pub more_some : {A : Type 0} (a : Option A) (b : Option (List A)) → is_some a ≡ true → is_some b ≡ true → is_some (more a b) ≡ true
more_some None b p q = p
more_some (Some a) None p q = q
more_some (Some a) (Some b) p q = refl

pub map_some : {A B : Type 0} (f : A → B) (o : Option A) → is_some o ≡ true → is_some (option_map f o) ≡ true
map_some f None p = p
map_some f (Some a) p = refl

-- ---- nodes

pub told_by : {A : Type 0} (fs : List Breach) (x : A) → IsTold (by fs x)
told_by [] x e = refl
told_by (f ∷ fs) x e = absurd (not_none f fs e)

-- of a node that breaks a rule there is nothing to say
pub told_refused : (f : Breach) → f ∷ [] ≡ [] → false ≡ true
told_refused f e = absurd (not_none f [] e)

pub told_after : {A : Type 0} (fs : List Breach) (j : Judged A) → IsTold j → IsTold (after fs j)
told_after fs j h e = h (none_behind fs j.breaches e)

pub told_given : {A B : Type 0} (o : Option A) (n : A → Judged B) → is_some o ≡ true → ((a : A) → IsTold (n a)) → IsTold (given o n)
told_given None n h k e = absurd (never h)
told_given (Some a) n h k e = k a e

pub told_part : {A B : Type 0} (a : Judged A) (n : A → Judged B) → IsTold a → ((x : A) → IsTold (n x)) → IsTold (of_part a n)
told_part a n h k e =
    let rest = (given a.found n).breaches in
    told_given a.found n (h (none_before a.breaches rest e)) k (none_behind a.breaches rest e)

-- where what may be found of the first is known
pub told_parts_where : {A B C : Type 0} (a : Judged A) (b : Judged B) (n : A → B → Judged C) → IsTold a → IsTold b → ((x : A) (y : B) → a.found ≡ Some x → IsTold (n x y)) → IsTold (of_parts a b n)
told_parts_where {A = A} {B = B} a b n h k m e =
    let rest = (given (both a.found b.found) (λ p. n p.0 p.1)).breaches in
    let none = none_before (a.breaches ++ b.breaches) rest e in
    found a.found b.found refl (both_some a.found b.found (h (none_before a.breaches b.breaches none)) (k (none_behind a.breaches b.breaches none))) (none_behind (a.breaches ++ b.breaches) rest e)
  where
    found : (x : Option A) (y : Option B) → a.found ≡ x → is_some (both x y) ≡ true → IsTold (given (both x y) (λ p. n p.0 p.1))
    found None y is some e = absurd (never some)
    found (Some x) None is some e = absurd (never some)
    found (Some x) (Some y) is some e = m x y is e

pub told_parts : {A B C : Type 0} (a : Judged A) (b : Judged B) (n : A → B → Judged C) → IsTold a → IsTold b → ((x : A) (y : B) → IsTold (n x y)) → IsTold (of_parts a b n)
told_parts a b n h k m e =
    let rest = (given (both a.found b.found) (λ p. n p.0 p.1)).breaches in
    let none = none_before (a.breaches ++ b.breaches) rest e in
    told_given (both a.found b.found) (λ p. n p.0 p.1)
    (both_some a.found b.found (h (none_before a.breaches b.breaches none)) (k (none_behind a.breaches b.breaches none)))
    (λ p. m p.0 p.1) (none_behind (a.breaches ++ b.breaches) rest e)

pub told_as : {A B : Type 0} (f : A → B) (a : Judged A) → IsTold a → IsTold (as_part f a)
told_as f a h = told_part a (λ x. by [] (f x)) h (λ x e. refl)

pub told_pair : {A B : Type 0} (a : Judged A) (b : Judged B) → IsTold a → IsTold b → IsTold (pair_of a b)
told_pair a b h k e = both_some a.found b.found (h (none_before a.breaches b.breaches e)) (k (none_behind a.breaches b.breaches e))

pub told_more : {A : Type 0} (a : Judged A) (b : Judged (List A)) → IsTold a → IsTold b → a.breaches ++ b.breaches ≡ [] → is_some (more a.found b.found) ≡ true
told_more a b h k e = more_some a.found b.found (h (none_before a.breaches b.breaches e)) (k (none_behind a.breaches b.breaches e))

pub told_together : {A : Type 0} (js : List (Judged A)) → AreTold js → IsTold (together js)
told_together [] all e = refl
told_together (j ∷ js) all e = told_more j (together js) all.0 (told_together js all.1) e

pub told_perhaps : {A B : Type 0} (judge : A → Judged B) (o : Option A) → ((x : A) → IsTold (judge x)) → IsTold (perhaps judge o)
told_perhaps judge None h e = refl
told_perhaps judge (Some x) h e = told_as Some (judge x) (h x) e
