-- The rules that are broken at a node and its parts, and its typed form where none is.
use Rattle.std.specs.Prelude.{◌≡◌, ℕ, Bool, true, List, [], ◌∷◌, ◌++◌, Option, Some, None, Vec, if◌then◌else◌}
use Rattle.std.specs.declared.alloc.Global.{Global}
use Rattle.c_tree.specs.declared.kind.Kind.{Kind}
use Rattle.c_rules.specs.declared.breach.Breach.{Breach}

pub record Judged (A : Type 0) : Type 0 where
  pub breaches : List Breach
  pub found : Option A

-- one rule is one test
abbrev pub breaks : Bool → Kind → ℕ → List Breach
breaks b kind at = if b then record { kind = kind; at = at } ∷ [] else []

abbrev pub sound : {A : Type 0} → List Breach → A → Option A
sound [] x = Some x
sound (f ∷ fs) x = None

-- the list has these broken rules more at its end
abbrev pub Notes : Vec Breach Global → Vec Breach Global → List Breach → Type 0
Notes old new rules = new.items ≡ old.items ++ rules

-- a node, by its own rules and what it is where it breaks none of them
abbrev pub by : {A : Type 0} → List Breach → A → Judged A
by breaches x = record { breaches = breaches; found = sound breaches x }

-- nothing is said of a node in which a part breaks a rule
abbrev pub silent : {A : Type 0} → Judged A
silent = record { breaches = []; found = None }

-- nothing is said where a part breaks a rule
abbrev pub unless_broken : List Breach → List Breach → List Breach
unless_broken [] rules = rules
unless_broken (f ∷ fs) rules = []

-- a node that breaks a rule
abbrev pub refused : {A : Type 0} → Kind → ℕ → Judged A
refused kind at = record { breaches = breaks true kind at; found = None }

abbrev pub given : {A B : Type 0} → Option A → (A → Judged B) → Judged B
given None node = silent
given (Some a) node = node a

abbrev pub both : {A B : Type 0} → Option A → Option B → Option (A × B)
both (Some a) (Some b) = Some (a, b)
both _ _ = None

abbrev pub after : {A : Type 0} → List Breach → Judged A → Judged A
after breaches j = record { breaches = breaches ++ j.breaches; found = j.found }

-- a node with one part, and with two
abbrev pub of_part : {A B : Type 0} → Judged A → (A → Judged B) → Judged B
of_part a node = after a.breaches (given a.found node)

abbrev pub of_parts : {A B C : Type 0} → Judged A → Judged B → (A → B → Judged C) → Judged C
of_parts a b node = after (a.breaches ++ b.breaches) (given (both a.found b.found) (λ p. node p.0 p.1))

-- a part as it is, and seen in another way
abbrev pub as_part : {A B : Type 0} → (A → B) → Judged A → Judged B
as_part f a = of_part a (λ x. by [] (f x))

-- two parts as they are
abbrev pub pair_of : {A B : Type 0} → Judged A → Judged B → Judged (A × B)
pair_of a b = record { breaches = a.breaches ++ b.breaches; found = both a.found b.found }

-- one and more, where all are sound
abbrev pub more : {A : Type 0} → Option A → Option (List A) → Option (List A)
more (Some x) (Some xs) = Some (x ∷ xs)
more _ _ = None

-- several parts, in order
abbrev pub together : {A : Type 0} → List (Judged A) → Judged (List A)
together [] = by [] []
together (j ∷ js) = record { breaches = j.breaches ++ (together js).breaches; found = more j.found (together js).found }

-- what may be left out
abbrev pub perhaps : {A B : Type 0} → (A → Judged B) → Option A → Judged (Option B)
perhaps judge None = by [] None
perhaps judge (Some x) = as_part Some (judge x)

-- all so far and one, where all are sound
abbrev pub gathered : {A : Type 0} → Option (List A) → Option A → Option (List A)
gathered (Some xs) (Some x) = Some (xs ++ x ∷ [])
gathered _ _ = None
