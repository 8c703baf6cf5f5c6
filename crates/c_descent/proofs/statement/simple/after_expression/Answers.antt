use Rattle.std.proofs.Common.{◌≡◌, true}
use Rattle.c_grammar.specs.Grammar.{assignments}
use Rattle.c_grammar.specs.Meaning.{next_in}
use Rattle.c_grammar.proofs.Steps.{r_seq}
use Rattle.c_descent.proofs.StatementChoices.{maybe_left}
use Rattle.c_descent.proofs.statement.simple.after_expression.Goals as goal

pub returns-then-is_assignment-clause-reads : goal.returns-then-is_assignment-clause-reads
returns-then-is_assignment-clause-reads c =
    let p : next_in assignments c.in_ok-place.rest.now ≡ true = cc in
    rw (c.into_inner.ensures, c.into_inner-then-is_assignment.ensures) (r_seq c.in_ok-place.ensures.reads (maybe_left p (r_seq c.in_ok-at.ensures.reads c.in_ok-value.ensures.reads)))
