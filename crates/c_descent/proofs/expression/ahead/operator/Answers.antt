use Rattle.c_tree.specs.declared.token.Class.TheVariants.{Sign}
use Rattle.c_grammar.specs.Grammar.{operators}
use Rattle.c_grammar.proofs.Steps.{stops_from}
use Rattle.c_descent.proofs.ExpressionWords.{operator_grade, without_place, fault_without_place}
use Rattle.c_descent.proofs.expression.ahead.operator.Goals as goal

pub returns-in-Ok-clause-reads : goal.returns-in-Ok-clause-reads
returns-in-Ok-clause-reads c = without_place _ _ _ _ _ _ (c.in-Ok.ensures.reads (λ o. Sign o) (operators c.args.grade) c.at_operator.ensures)

pub returns-in-Ok-clause-grade : goal.returns-in-Ok-clause-grade
returns-in-Ok-clause-grade c = operator_grade c.args.grade _ _ _ _ _ c.requires (c.in-Ok.ensures.reads (λ o. Sign o) (operators c.args.grade) c.at_operator.ensures)

pub returns-in-Err-clause-reads : goal.returns-in-Err-clause-reads
returns-in-Err-clause-reads c = stops_from _ (λ k zs h. fault_without_place _ _ _ _ k h) (c.in-Err.ensures.reads (λ o. Sign o) (operators c.args.grade) c.at_operator.ensures)
