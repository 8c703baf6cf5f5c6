use Rattle.std.proofs.Common.{sym}
use Rattle.std.proofs.lemmas.Result.{err_from_is_err_and}
use Rattle.c_grammar.proofs.Views.{row_return}
use Rattle.c_descent.proofs.StatementChoices.{at_return}
use Rattle.c_grammar.proofs.Steps.{fails_from, stops_from, r_seq, r_end, r_same, r_ref, f_ref, f_first, f_second}
use Rattle.c_descent.proofs.statement.leaf.return_statement.Goals as goal

pub returns-in_err-at-clause-reads : goal.returns-in_err-at-clause-reads
returns-in_err-at-clause-reads c q =
    let w = err_from_is_err_and c.from_residual.result c.from_residual.ensures.1 in
    rw (w.1, w.2) (stops_from _ (λ k z h. f_ref (at_return q (f_ref (f_first h)))) c.in_err-at.ensures.reads)

pub returns-in_err-value-clause-reads : goal.returns-in_err-value-clause-reads
returns-in_err-value-clause-reads c q =
    let w = err_from_is_err_and c.from_residual-in_err-value.result c.from_residual-in_err-value.ensures.1 in
    rw (w.1, w.2) (fails_from _ (λ k z h. f_ref (at_return q (f_ref (f_second c.in_ok-at.ensures.reads (f_first h))))) c.in_err-value.ensures.reads)

pub returns-in_err-rest-clause-reads : goal.returns-in_err-rest-clause-reads
returns-in_err-rest-clause-reads c q =
    let w = err_from_is_err_and c.from_residual-in_err-rest.result c.from_residual-in_err-rest.ensures.1 in
    rw (w.1, w.2) (stops_from _ (λ k z h. f_ref (at_return q (f_ref (f_second c.in_ok-at.ensures.reads (f_second c.in_ok-value.ensures.reads h))))) c.in_err-rest.ensures.reads)

pub returns-clause-reads : goal.returns-clause-reads
returns-clause-reads c q =
    rw c.unboxed-value.ensures (r_same (r_ref (at_return q (r_ref (r_seq c.in_ok-at.ensures.reads (r_end c.in_ok-value.ensures.reads c.in_ok-rest.ensures.reads))))) (sym (row_return c.in_ok-at.at c.in_ok-value.value)))
