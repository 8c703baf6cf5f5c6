use Rattle.c_grammar.specs.Grammar.{◌⊳◌, comma, e}
use Rattle.c_grammar.proofs.Steps.{passed_on, stop_passed_on, fails_from, stops_from, f_ref, r_ref}
use Rattle.c_descent.proofs.CallSteps.{f_before, f_more, r_more}
use Rattle.c_descent.proofs.argument.buffer.Goals as goal

pub returns-in_err-start-clause-reads : goal.returns-in_err-start-clause-reads
returns-in_err-start-clause-reads c = passed_on _ _ _ _ _ _ _ c.from_residual.ensures.1 (fails_from _ (λ k z h. f_ref (f_before e _ h)) c.in_err-start.ensures.reads)

pub returns-in_err-count-clause-reads : goal.returns-in_err-count-clause-reads
returns-in_err-count-clause-reads c = passed_on _ _ _ _ _ _ _ c.from_residual-in_err-count.ensures.1 (fails_from _ (λ k z h. f_ref (f_more e c.in_ok-start.ensures.reads (f_before (comma ⊳ e) _ h))) c.in_err-count.ensures.reads)

pub returns-in_err-datatype-clause-reads : goal.returns-in_err-datatype-clause-reads
returns-in_err-datatype-clause-reads c = stop_passed_on _ _ _ _ _ _ _ c.from_residual-in_err-datatype.ensures.1 (stops_from _ (λ k z h. f_ref (f_more e c.in_ok-start.ensures.reads (f_more (comma ⊳ e) c.in_ok-count.ensures.reads (h)))) c.in_err-datatype.ensures.reads)

pub returns-clause-reads : goal.returns-clause-reads
returns-clause-reads c = r_ref (r_more e c.in_ok-start.ensures.reads (r_more (comma ⊳ e) c.in_ok-count.ensures.reads c.in_ok-datatype.ensures.reads))
