use Rattle.std.proofs.Common.{◌≡◌, true, false}
use Rattle.c_grammar.specs.Grammar.{increments}
use Rattle.c_grammar.specs.Meaning.{next_in}
use Rattle.c_grammar.specs.Trees.{simple_row, simple_tree}
use Rattle.c_descent.proofs.StatementChoices.{passing}
use Rattle.c_grammar.proofs.Steps.{r_ref, f_ref, r_left, r_right}
use Rattle.c_descent.proofs.statement.simple.simple_statement.Goals as goal

pub returns-then-is_step-clause-reads : goal.returns-then-is_step-clause-reads
returns-then-is_step-clause-reads c =
    let q : next_in increments c.args.tokens.now ≡ true = cc in
    passing c.prefix_step.result (λ x. simple_row x.0) (λ x. simple_tree x.0) (λ x. x.1.now) _ _ _ _ (λ x h. r_ref (r_left q h)) (λ k z h. f_ref (r_left q h)) c.prefix_step.ensures.reads

pub returns-clause-reads : goal.returns-clause-reads
returns-clause-reads c =
    let q : next_in increments c.args.tokens.now ≡ false = cc in
    passing c.after_expression.result (λ x. simple_row x.0) (λ x. simple_tree x.0) (λ x. x.1.now) _ _ _ _ (λ x h. r_ref (r_right q h)) (λ k z h. f_ref (r_right q h)) c.after_expression.ensures.reads
