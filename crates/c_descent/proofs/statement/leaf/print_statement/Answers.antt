use Rattle.std.proofs.Common.{sym}
use Rattle.std.proofs.lemmas.Result.{err_from_is_err_and}
use Rattle.c_grammar.proofs.Views.{row_print}
use Rattle.c_descent.proofs.StatementChoices.{at_print}
use Rattle.c_grammar.proofs.Steps.{fails_from, stops_from, r_seq, r_end, r_same, r_ref, f_ref, f_first, f_second}
use Rattle.c_descent.proofs.statement.leaf.print_statement.Goals as goal

pub returns-in_err-at-clause-reads : goal.returns-in_err-at-clause-reads
returns-in_err-at-clause-reads c q =
    let w = err_from_is_err_and c.from_residual.result c.from_residual.ensures.1 in
    rw (w.1, w.2) (stops_from _ (λ k z h. f_ref (at_print q (f_ref (f_first h)))) c.in_err-at.ensures.reads)

pub returns-in_err-format-clause-reads : goal.returns-in_err-format-clause-reads
returns-in_err-format-clause-reads c q =
    let w = err_from_is_err_and c.from_residual-in_err-format.result c.from_residual-in_err-format.ensures.1 in
    rw (w.1, w.2) (fails_from _ (λ k z h. f_ref (at_print q (f_ref (f_second c.in_ok-at.ensures.reads (f_first h))))) c.in_err-format.ensures.reads)

pub returns-in_err-rest-clause-reads : goal.returns-in_err-rest-clause-reads
returns-in_err-rest-clause-reads c q =
    let w = err_from_is_err_and c.from_residual-in_err-rest.result c.from_residual-in_err-rest.ensures.1 in
    rw (w.1, w.2) (stops_from _ (λ k z h. f_ref (at_print q (f_ref (f_second c.in_ok-at.ensures.reads (f_second c.in_ok-format.ensures.reads h))))) c.in_err-rest.ensures.reads)

pub returns-clause-reads : goal.returns-clause-reads
returns-clause-reads c q =
    r_same (r_ref (at_print q (r_ref (r_seq c.in_ok-at.ensures.reads (r_end c.in_ok-format.ensures.reads c.in_ok-rest.ensures.reads))))) (sym (row_print c.in_ok-at.at c.in_ok-format.format c.in_ok-format.arguments))
