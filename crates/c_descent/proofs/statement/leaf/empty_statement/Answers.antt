use Rattle.std.proofs.Common.{sym}
use Rattle.std.proofs.lemmas.Result.{err_from_is_err_and}
use Rattle.c_grammar.proofs.Views.{row_empty}
use Rattle.c_descent.proofs.StatementChoices.{at_empty}
use Rattle.c_grammar.proofs.Steps.{stops_from, r_same, r_ref, f_ref}
use Rattle.c_descent.proofs.statement.leaf.empty_statement.Goals as goal

pub returns-in_err-at-clause-reads : goal.returns-in_err-at-clause-reads
returns-in_err-at-clause-reads c q =
    let w = err_from_is_err_and c.from_residual.result c.from_residual.ensures.1 in
    rw (w.1, w.2) (stops_from _ (λ k z h. f_ref (at_empty q (h))) c.in_err-at.ensures.reads)

pub returns-clause-reads : goal.returns-clause-reads
returns-clause-reads c q =
    r_same (r_ref (at_empty q (c.in_ok-at.ensures.reads))) (sym (row_empty c.in_ok-at.at))
