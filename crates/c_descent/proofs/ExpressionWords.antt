-- Words of expressions.
use Rattle.std.proofs.Common.{◌≡◌, ◌<◌, ℕ, zero, suc, true, List, [], ◌∷◌, ◌⊎◌, inl, inr, refl, sym, ap, ◌∙◌, arith, nat_eq}
use Rattle.std.proofs.lemmas.Bool.{or_cases}
use Rattle.c_tree.specs.Codes.{code}
use Rattle.c_tree.specs.declared.token.Class.{Class}
use Rattle.c_tree.specs.declared.token.Class.TheVariants.{Sign}
use Rattle.c_tree.specs.declared.token.Operator.{Operator}
use Rattle.c_tree.specs.declared.token.Operator.TheVariants.{Star, Slash, Percent, Plus, Minus, ShiftLeft, ShiftRight, Less, Greater, LessEqual, GreaterEqual, EqualEqual, NotEqual, And, Caret, Or, AndAnd, OrOr}
use Rattle.c_tree.specs.declared.token.Token.{Token}
use Rattle.c_tree.specs.declared.token.Value.TheVariants as value
use Rattle.c_grammar.specs.Grammar.{Keep, Place, Kind, Word, operators}
use Rattle.c_grammar.specs.Meaning.{Forest, leaf, node, none, has, kept}
use Rattle.c_grammar.specs.Descent as descent
use Rattle.c_grammar.specs.Descent.{Reads, Read, Fault, Outcome, word_read, word_unfit, word_bad}
use Rattle.c_grammar.specs.Readers.{grade}
use Rattle.c_grammar.proofs.Codes.{code_injective}
use Rattle.c_grammar.proofs.Tables.{eq_of_test}
use Rattle.c_grammar.proofs.Steps.{r_same}

-- each class of the list is an operator of the grade
abbrev Graded : ℕ → List Class → Type 0
Graded g [] = Unit {0}
Graded g (c ∷ cs) = ((o : Operator) × (c ≡ Sign o) × (grade o ≡ g)) × Graded g cs

operators_graded : (g : ℕ) → g < 10 → Graded g (operators g)
operators_graded zero b = ((Star, refl, refl), ((Slash, refl, refl), ((Percent, refl, refl), tt)))
operators_graded (suc zero) b = ((Plus, refl, refl), ((Minus, refl, refl), tt))
operators_graded (suc (suc zero)) b = ((ShiftLeft, refl, refl), ((ShiftRight, refl, refl), tt))
operators_graded (suc (suc (suc zero))) b = ((Less, refl, refl), ((Greater, refl, refl), ((LessEqual, refl, refl), ((GreaterEqual, refl, refl), tt))))
operators_graded (suc (suc (suc (suc zero)))) b = ((EqualEqual, refl, refl), ((NotEqual, refl, refl), tt))
operators_graded (suc (suc (suc (suc (suc zero))))) b = ((And, refl, refl), tt)
operators_graded (suc (suc (suc (suc (suc (suc zero)))))) b = ((Caret, refl, refl), tt)
operators_graded (suc (suc (suc (suc (suc (suc (suc zero))))))) b = ((Or, refl, refl), tt)
operators_graded (suc (suc (suc (suc (suc (suc (suc (suc zero)))))))) b = ((AndAnd, refl, refl), tt)
operators_graded (suc (suc (suc (suc (suc (suc (suc (suc (suc zero))))))))) b = ((OrOr, refl, refl), tt)
operators_graded (suc (suc (suc (suc (suc (suc (suc (suc (suc (suc g)))))))))) b = absurd (omega arith)

graded_has : (g : ℕ) (cs : List Class) (c : Class) → Graded g cs → has cs (code c) ≡ true → (o : Operator) × (c ≡ Sign o) × (grade o ≡ g)
graded_has g [] c s h = cc
graded_has g (d ∷ cs) c s h = by (λ e. graded_has g cs c s.1 e) (or_cases _ _ h)
  where
    by : (has cs (code c) ≡ true → (o : Operator) × (c ≡ Sign o) × (grade o ≡ g)) → ((nat_eq (code c) (code d) ≡ true) ⊎ (has cs (code c) ≡ true)) → (o : Operator) × (c ≡ Sign o) × (grade o ≡ g)
    by f (inl e) = (s.0.0, code_injective c d (eq_of_test (code c) (code d) e) ∙ s.0.1, s.0.2)
    by f (inr e) = f e

-- the token that was read as a word
record Found (k : Keep) (cs : List Class) (f : Forest) : Type 0 where
  pub token : Token
  pub among : has cs (code token.class) ≡ true
  pub keeps : kept k token ≡ f

found : (l : ℕ) (k : Keep) (cs : List Class) (ts us : List Token) (f : Forest) → Reads l (Word k cs) ts (Read f us) → Found k cs f
found _ _ _ _ _ _ (word_read l k cs t ts h b) = record { token = t; among = h; keeps = refl }

class_of : Forest → Class
class_of none = Sign Star
class_of (leaf c v p rest) = c
class_of (node p kids rest) = Sign Star

-- an operator that was read has the grade
pub operator_grade : (g l : ℕ) (ts us : List Token) (o : Operator) (at : ℕ) → g < 10 → Reads l (Word Place (operators g)) ts (Read (leaf (Sign o) value.Nothing at none) us) → grade o ≡ g
unfolding found class_of
operator_grade g l ts us o at small h =
    let w = found l Place (operators g) ts us (leaf (Sign o) value.Nothing at none) h in
    let s = graded_has g (operators g) w.token.class (operators_graded g small) w.among in
    let e : Sign s.0 ≡ Sign o = sym s.1 ∙ ap class_of w.keeps in
    let p : s.0 ≡ o = cc in
    ap grade (sym p) ∙ s.2

-- a word that is read with its place is read without
pub without_place : (l : ℕ) (cs : List Class) (ts us : List Token) (c : Class) (at : ℕ) → Reads l (Word Place cs) ts (Read (leaf c value.Nothing at none) us) → Reads l (Word Kind cs) ts (Read (leaf c value.Nothing 0 none) us)
unfolding class_of
without_place l cs ts us c at h = r_same (kind_read l cs ts us (leaf c value.Nothing at none) h) refl
  where
    kind_read : (l : ℕ) (cs : List Class) (ts us : List Token) (f : Forest) → Reads l (Word Place cs) ts (Read f us) → Reads l (Word Kind cs) ts (Read (leaf (class_of f) value.Nothing 0 none) us)
    kind_read _ _ _ _ _ (word_read l k cs t ts h b) = word_read l Kind cs t ts h b

pub fault_without_place : (l : ℕ) (cs : List Class) (ts us : List Token) (k : descent.Kind) → Reads l (Word Place cs) ts (Fault k us) → Reads l (Word Kind cs) ts (Fault k us)
fault_without_place _ _ _ _ _ (word_unfit l k cs t ts w h b) = word_unfit l Kind cs t ts w h b
fault_without_place _ _ _ _ _ (word_bad l k cs ts h) = word_bad l Kind cs ts h
