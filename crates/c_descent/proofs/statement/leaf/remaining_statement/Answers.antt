use Rattle.std.proofs.Common.{sym}
use Rattle.std.proofs.lemmas.Result.{err_from_is_err_and}
use Rattle.c_grammar.proofs.Views.{row_simple}
use Rattle.c_descent.proofs.StatementChoices.{at_simple}
use Rattle.c_grammar.proofs.Steps.{fails_from, stops_from, r_end, r_same, r_ref, f_ref, f_first, f_second}
use Rattle.c_descent.proofs.statement.leaf.remaining_statement.Goals as goal

pub returns-in_err-action-clause-reads : goal.returns-in_err-action-clause-reads
returns-in_err-action-clause-reads c q =
    let w = err_from_is_err_and c.from_residual.result c.from_residual.ensures.1 in
    rw (w.1, w.2) (fails_from _ (λ k z h. f_ref (at_simple q (f_first h))) c.in_err-action.ensures.reads)

pub returns-in_err-action-2-clause-reads : goal.returns-in_err-action-2-clause-reads
returns-in_err-action-2-clause-reads c q =
    let w = err_from_is_err_and c.from_residual-in_err-action-2.result c.from_residual-in_err-action-2.ensures.1 in
    rw (w.1, w.2) (stops_from _ (λ k z h. f_ref (at_simple q (f_second c.in_ok-action.ensures.reads h))) c.in_err-action-2.ensures.reads)

pub returns-clause-reads : goal.returns-clause-reads
returns-clause-reads c q =
    rw c.in_ok-action-2.ensures.same (r_same (r_ref (at_simple q (r_end c.in_ok-action.ensures.reads c.in_ok-action-2.ensures.reads))) (sym (row_simple c.in_ok-action.action)))
