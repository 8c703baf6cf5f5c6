use Rattle.std.proofs.Common.{◌≡◌, true}
use Rattle.std.proofs.lemmas.Result.{IfOk-weaker}
use Rattle.c_tree.specs.declared.tree.Expr.TheVariants as expr
use Rattle.c_descent.proofs.ExpressionShapes.{chain_linked}
use Rattle.c_descent.proofs.expression.nodes.chain.Goals as goal

pub returns-clause-tree : goal.returns-clause-tree
returns-clause-tree c =
    IfOk-weaker c.new.result (λ x. x ≡ expr.Chain c.args.first c.args.rest) _ (λ x e. chain_linked c.args.grade c.args.first c.args.rest x c.requires.small c.requires.rest (λ e. let h : c.is_empty.result ≡ true = c.is_empty.ensures.1 e in cc) e) c.new.ensures
