-- Shapes of chains.
use Rattle.std.proofs.Common.{◌≡◌, refl, ap, ◌∙◌, sym, ℕ, suc, ◌≤◌, ◌<◌, List, [], ◌∷◌}
use Rattle.c_tree.specs.declared.tree.Expr.{Expr}
use Rattle.c_tree.specs.declared.tree.Expr.TheVariants as expr
use Rattle.c_tree.specs.declared.tree.Link.{Link}
use Rattle.c_grammar.specs.Grammar.{Binary}
use Rattle.c_grammar.specs.Meaning.{none, node, ◌+++◌}
use Rattle.c_grammar.specs.Trees.{shape, grade_of, at_grade, chain, chain_grade, each, link_row}
use Rattle.c_grammar.proofs.Grades.{at_grade_lift, at_grade_chain, part_of_chain, none_right}
use Rattle.c_grammar.proofs.Views.{shape_chain}
use Rattle.c_descent.specs.More.{FirstOf}

-- an operand alone
pub chain_alone : (g : ℕ) (first : Expr) (rest : List (Link Expr)) → g < 10 → grade_of first ≤ g → rest ≡ [] → at_grade (suc g) (shape first) ≡ node (Binary g) (at_grade g (shape first) +++ each (link_row shape g) rest) none
chain_alone g first rest small low empty =
    at_grade_lift g (shape first) low
    ∙ ap (λ p. node p (at_grade g (shape first)) none) (part_of_chain g small)
    ∙ ap (λ row. node (Binary g) row none) (sym (none_right (at_grade g (shape first))))
    ∙ ap (λ links. node (Binary g) (at_grade g (shape first) +++ each (link_row shape g) links) none) (sym empty)

grade_of_links : (g : ℕ) (rest : List (Link Expr)) → FirstOf g rest → (rest ≡ [] → ⊥) → chain_grade rest ≡ g
grade_of_links g [] h some = absurd (some refl)
grade_of_links g (link ∷ links) h some = h

-- an operand with links
pub chain_linked : (g : ℕ) (first : Expr) (rest : List (Link Expr)) (x : Expr) → g < 10 → FirstOf g rest → (rest ≡ [] → ⊥) → x ≡ expr.Chain first rest → at_grade (suc g) (shape x) ≡ node (Binary g) (at_grade g (shape first) +++ each (link_row shape g) rest) none
chain_linked g first rest x small graded some same =
    ap (λ (y : Expr). at_grade (suc g) (shape y)) same
    ∙ ap (at_grade (suc g)) (shape_chain first rest ∙ ap (λ n. chain shape n first rest) (grade_of_links g rest graded some))
    ∙ at_grade_chain shape g first rest
    ∙ ap (λ p. node p (at_grade g (shape first) +++ each (link_row shape g) rest) none) (part_of_chain g small)
