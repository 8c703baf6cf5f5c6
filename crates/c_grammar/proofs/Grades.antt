-- The parse trees of expressions where one of a grade is wanted, and rows that grow.
use Rattle.std.proofs.Common.{◌≡◌, refl, ap, ◌∙◌, sym, ℕ, zero, suc, ◌+◌, ◌-◌, ◌≤◌, ◌<◌, List, [], ◌∷◌, ◌++◌, Bool, true, false, nat_eq, arith}
use Rattle.std.proofs.lemmas.Bool.{ne_eqb}
use Rattle.c_tree.specs.declared.tree.Link.{Link}
use Rattle.c_grammar.specs.Grammar as part
use Rattle.c_grammar.specs.Grammar.{Part}
use Rattle.c_grammar.specs.Meaning.{Forest, none, node, ◌+++◌}
use Rattle.c_grammar.specs.Trees.{Shape, operand, whole, each, at_grade, lifted, part_of, chain, link_row}
pub use Rattle.c_grammar.proofs.Steps.{none_right, forest_assoc}

-- ---- rows

-- one more in a row
pub each_push : {X : Type 0} (row : X → Forest) (xs : List X) (x : X) → each row (xs ++ x ∷ []) ≡ each row xs +++ row x
each_push row [] x = none_right (row x)
each_push row (y ∷ xs) x = ap (λ rest. row y +++ rest) (each_push row xs x) ∙ sym (forest_assoc (row y) (each row xs) (row x))

-- ---- grades

-- the part of a chain of the grade g
pub part_of_chain : (g : ℕ) → g < 10 → part_of (suc g) ≡ part.Binary g
part_of_chain g small = ap (λ t. elim t as (λ _. Part) [ true ↦ part.Expression | false ↦ part.Binary g ]) (ne_eqb g 10 (λ e. absurd (omega arith)))

-- a test that fails on the parts of expressions
pub part_fails : (test : Part → Bool) → test part.Unary ≡ false → test part.Expression ≡ false → ((g : ℕ) → test (part.Binary g) ≡ false) → (n : ℕ) → test (part_of n) ≡ false
part_fails test unary whole chain zero = unary
part_fails test unary whole chain (suc n) = go (nat_eq n 10)
  where
    go : (b : Bool) → test (elim b as (λ _. Part) [ true ↦ part.Expression | false ↦ part.Binary n ]) ≡ false
    go true = whole
    go false = chain n

-- an operand by itself
pub at_grade_operand : (row : Forest) → at_grade 0 (operand row) ≡ node part.Unary row none
at_grade_operand row = refl

lifted_up : (k g h : ℕ) (row : Forest) → k ≡ suc g - h → h ≤ g → lifted k h row ≡ node (part_of (suc g)) (lifted (g - h) h row) none
lifted_up zero g h row e low = absurd (omega arith)
lifted_up (suc k) g h row e low =
    let up : suc k + h ≡ suc g = omega arith in
    let down : k ≡ g - h = omega arith in
    λ i. node (part_of (up i)) (lifted (down i) h row) none

-- one of a lower grade is one node around it
pub at_grade_lift : (g : ℕ) (s : Shape) → s.grade ≤ g → at_grade (suc g) s ≡ node (part_of (suc g)) (at_grade g s) none
at_grade_lift g s low = lifted_up (suc g - s.grade) g s.grade s.row refl low

-- a chain by itself
pub at_grade_chain : {E : Type 0} (look : E → Shape) (g : ℕ) (first : E) (rest : List (Link E)) → at_grade (suc g) (chain look g first rest) ≡ node (part_of (suc g)) (at_grade g (look first) +++ each (link_row look g) rest) none
at_grade_chain look g first rest =
    let same : suc g - suc g ≡ 0 = omega arith in
    ap (λ k. lifted k (suc g) (at_grade g (look first) +++ each (link_row look g) rest)) same

-- an expression that is no choice
pub whole_lift : (s : Shape) → s.grade ≤ 10 → whole s ≡ node part.Expression (at_grade 10 s) none
whole_lift s low = at_grade_lift 10 s low
