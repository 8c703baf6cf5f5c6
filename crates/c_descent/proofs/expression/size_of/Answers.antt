use Rattle.c_grammar.proofs.Steps.{r_seq, r_skip, r_end, r_deeper}
use Rattle.c_descent.proofs.ExpressionSteps.{r_row}
use Rattle.c_descent.proofs.expression.size_of.Goals as goal

pub returns-clause-reads : goal.returns-clause-reads
returns-clause-reads c = r_row c.in_ok-size.size (r_seq c.in_ok-at.ensures.reads (r_skip c.in_ok-rest.ensures.reads (r_end (r_deeper c.in_ok-name.ensures.reads) c.in_ok-rest-2.ensures.reads))) c.in_ok-size.ensures
