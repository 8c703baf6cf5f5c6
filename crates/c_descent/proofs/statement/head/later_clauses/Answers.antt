use Rattle.std.proofs.lemmas.Result.{err_from_is_err_and}
use Rattle.c_grammar.proofs.Steps.{fails_from, stops_from, r_seq, r_end, f_first, f_second, r_deeper}
use Rattle.c_descent.proofs.statement.head.later_clauses.Goals as goal

pub returns-in_err-rest-clause-reads : goal.returns-in_err-rest-clause-reads
returns-in_err-rest-clause-reads c =
    let w = err_from_is_err_and c.from_residual.result c.from_residual.ensures.1 in
    rw (w.1, w.2) (stops_from _ (λ k z h. f_first h) c.in_err-rest.ensures.reads)

pub returns-in_err-test-clause-reads : goal.returns-in_err-test-clause-reads
returns-in_err-test-clause-reads c =
    let w = err_from_is_err_and c.from_residual-in_err-test.result c.from_residual-in_err-test.ensures.1 in
    rw (w.1, w.2) (fails_from _ (λ k z h. f_second c.in_ok-rest.ensures.reads (f_first h)) c.in_err-test.ensures.reads)

pub returns-in_err-rest-2-clause-reads : goal.returns-in_err-rest-2-clause-reads
returns-in_err-rest-2-clause-reads c =
    let w = err_from_is_err_and c.from_residual-in_err-rest-2.result c.from_residual-in_err-rest-2.ensures.1 in
    rw (w.1, w.2) (stops_from _ (λ k z h. f_second c.in_ok-rest.ensures.reads (f_second c.in_ok-test.ensures.reads (f_first h))) c.in_err-rest-2.ensures.reads)

pub returns-in_err-step-clause-reads : goal.returns-in_err-step-clause-reads
returns-in_err-step-clause-reads c =
    let w = err_from_is_err_and c.from_residual-in_err-step.result c.from_residual-in_err-step.ensures.1 in
    rw (w.1, w.2) (fails_from _ (λ k z h. f_second c.in_ok-rest.ensures.reads (f_second c.in_ok-test.ensures.reads (f_second c.in_ok-rest-2.ensures.reads h))) c.in_err-step.ensures.reads)

pub returns-clause-reads : goal.returns-clause-reads
returns-clause-reads c = r_seq c.in_ok-rest.ensures.reads (r_seq c.in_ok-test.ensures.reads (r_seq c.in_ok-rest-2.ensures.reads c.in_ok-step.ensures.reads))
