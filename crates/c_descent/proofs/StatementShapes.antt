-- The parse trees of statements that hold others, with what came out of a box.
use Rattle.std.proofs.Common.{◌≡◌, ◌∙◌, ℕ, List, Option, sym, ap}
use Rattle.c_tree.specs.declared.token.Class.TheVariants as class
use Rattle.c_tree.specs.declared.tree.Arm.{Arm}
use Rattle.c_tree.specs.declared.tree.Expr.{Expr}
use Rattle.c_tree.specs.declared.tree.Stmt.{Stmt}
use Rattle.c_tree.specs.declared.tree.Stmt.TheVariants as stmt
use Rattle.c_grammar.specs.Grammar as part
use Rattle.c_grammar.specs.Meaning.{none, node, ◌+++◌}
use Rattle.c_grammar.specs.Trees.{word, expression_tree, statement_row, statement_tree, plain_node, if_row}
use Rattle.c_grammar.proofs.Views.{row_if, row_while, row_do_while}

pub if_shape : (at : ℕ) (test held : Expr) (then : Stmt) (arms : List (Arm Stmt)) (last : Option Stmt) → held ≡ test → statement_tree (node part.IfStatement (if_row statement_row at test then arms last) none) ≡ statement_tree (statement_row (stmt.If at held then arms last))
if_shape at test held then arms last e = ap (λ (x : Expr). statement_tree (node part.IfStatement (if_row statement_row at x then arms last) none)) (sym e) ∙ ap statement_tree (sym (row_if at held then arms last))

pub while_shape : (at : ℕ) (test held : Expr) (body : Stmt) → held ≡ test → plain_node part.WhileStatement (word class.While at (expression_tree test +++ statement_tree (statement_row body))) ≡ statement_row (stmt.While at held body)
while_shape at test held body e = ap (λ (x : Expr). plain_node part.WhileStatement (word class.While at (expression_tree x +++ statement_tree (statement_row body)))) (sym e) ∙ sym (row_while at held body)

pub do_shape : (at : ℕ) (body : Stmt) (test held : Expr) → held ≡ test → plain_node part.DoStatement (word class.Do at (statement_tree (statement_row body) +++ expression_tree test)) ≡ statement_row (stmt.DoWhile at body held)
do_shape at body test held e = ap (λ (x : Expr). plain_node part.DoStatement (word class.Do at (statement_tree (statement_row body) +++ expression_tree x))) (sym e) ∙ sym (row_do_while at body held)
