use Rattle.c_grammar.specs.Grammar as grammar
use Rattle.c_grammar.specs.Grammar.{Ref, ◌⊳◌, comma, datatype, e, one_of, operation, placed, word, world}
use Rattle.c_grammar.proofs.Steps.{passed_on, stop_passed_on, fails_from, stops_from}
use Rattle.c_descent.proofs.CallSteps.{f_before, f_more, r_more}
use Rattle.c_descent.proofs.message.count_arguments.Goals as goal

pub returns-in_err-status-clause-reads : goal.returns-in_err-status-clause-reads
returns-in_err-status-clause-reads c = passed_on _ _ _ _ _ _ _ c.from_residual.ensures.1 (fails_from _ (λ k z h. f_before (Ref grammar.Status) _ h) c.in_err-status.ensures.reads)

pub returns-in_err-datatype-clause-reads : goal.returns-in_err-datatype-clause-reads
returns-in_err-datatype-clause-reads c = stop_passed_on _ _ _ _ _ _ _ c.from_residual-in_err-datatype.ensures.1 (stops_from _ (λ k z h. f_more (Ref grammar.Status) c.in_ok-status.ensures.reads (f_before (comma ⊳ datatype) _ h)) c.in_err-datatype.ensures.reads)

pub returns-in_err-result-clause-reads : goal.returns-in_err-result-clause-reads
returns-in_err-result-clause-reads c = passed_on _ _ _ _ _ _ _ c.from_residual-in_err-result.ensures.1 (fails_from _ (λ k z h. f_more (Ref grammar.Status) c.in_ok-status.ensures.reads (f_more (comma ⊳ datatype) c.in_ok-datatype.ensures.reads (h))) c.in_err-result.ensures.reads)

pub returns-clause-reads : goal.returns-clause-reads
returns-clause-reads c = (r_more (Ref grammar.Status) c.in_ok-status.ensures.reads (r_more (comma ⊳ datatype) c.in_ok-datatype.ensures.reads c.in_ok-result.ensures.reads))
