-- Repetitions whose parts are kept in a list.
use Rattle.std.proofs.Common.{◌≡◌, ◌∙◌, ℕ, ◌+◌, true, List, [], ◌∷◌, ◌++◌, refl, sym, ap, zero, suc, add-one}
use Rattle.c_tree.specs.declared.token.Token.{Token}
use Rattle.c_tree.specs.declared.token.Class.TheVariants as class
use Rattle.c_tree.specs.declared.token.Operator.TheVariants as operator
use Rattle.c_grammar.specs.Grammar.{Rule}
use Rattle.c_grammar.specs.Meaning.{Forest, none, ◌+++◌, starts}
use Rattle.c_grammar.specs.Descent.{Reads, Read}
use Rattle.c_grammar.specs.Trees.{each, star_row, shown}
use Rattle.c_grammar.proofs.Grades.{each_push, none_right, forest_assoc}
use Rattle.c_grammar.proofs.Steps.{Past, past_start, past_step}

-- A repetition that began at ts, with the list xs, stands at us with the list ys.
pub record Grown {X : Type 0} (row : X → Forest) (l : ℕ) (r : Rule) (ts us : List Token) (xs ys : List X) : Type 0 where
  pub more : Forest
  pub past : Past l r ts us more
  pub rows : each row ys ≡ each row xs +++ more

pub grown_start : {X : Type 0} (row : X → Forest) (l : ℕ) (r : Rule) (ts : List Token) (xs : List X) → Grown row l r ts ts xs xs
grown_start row l r ts xs = record { more = none; past = past_start l r ts; rows = sym (none_right (each row xs)) }

pub grown_step : {X : Type 0} {row : X → Forest} {l : ℕ} {r : Rule} {ts us vs : List Token} {xs ys zs : List X} (y : X) → Grown row l r ts us xs ys → starts r us ≡ true → Reads l r us (Read (row y) vs) → zs ≡ ys ++ y ∷ [] → Grown row l r ts vs xs zs
grown_step {X} {row} {l} {r} {ts} {us} {vs} {xs} {ys} {zs} y g q h e =
    record {
      more = g.more +++ row y;
      past = past_step g.past q h;
      rows = ap (each row) e ∙ each_push row ys y ∙ ap (λ (f : Forest). f +++ row y) g.rows ∙ forest_assoc (each row xs) g.more (row y);
    }

-- one more star
pub star_more : (n : ℕ) → star_row n +++ shown (class.Sign operator.Star) none ≡ star_row (n + 1)
star_more n = stars_more n ∙ ap star_row (sym (add-one n))
  where
    stars_more : (n : ℕ) → star_row n +++ shown (class.Sign operator.Star) none ≡ star_row (suc n)
    stars_more zero = refl
    stars_more (suc n) = ap (shown (class.Sign operator.Star)) (stars_more n)

-- the first part and the others
pub one_and_more : {X : Type 0} {row : X → Forest} {l : ℕ} {r : Rule} {ts us : List Token} {vs xs ys : List X} (x : X) → vs ≡ [] → xs ≡ vs ++ x ∷ [] → (g : Grown row l r ts us xs ys) → row x +++ g.more ≡ each row ys
one_and_more {X} {row} {l} {r} {ts} {us} {vs} {xs} {ys} x e d g =
    let start : each row xs ≡ row x = ap (each row) (d ∙ ap (λ (zs : List X). zs ++ x ∷ []) e) ∙ none_right (row x) in
    sym (g.rows ∙ ap (λ (f : Forest). f +++ g.more) start)

-- all parts, where the list was empty
pub all_of_them : {X : Type 0} {row : X → Forest} {l : ℕ} {r : Rule} {ts us : List Token} {xs ys : List X} → xs ≡ [] → (g : Grown row l r ts us xs ys) → g.more ≡ each row ys
all_of_them {X} {row} {l} {r} {ts} {us} {xs} {ys} e g = sym (g.rows ∙ ap (λ (zs : List X). each row zs +++ g.more) e)
