use Rattle.c_grammar.specs.Grammar as grammar
use Rattle.c_grammar.specs.Grammar.{Ref, ◌⊳◌, comma, datatype, e, one_of, operation, placed, word, world}
use Rattle.c_grammar.proofs.Steps.{passed_on, stop_passed_on, fails_from, stops_from}
use Rattle.c_descent.proofs.CallSteps.{f_before, f_more, r_more}
use Rattle.c_descent.proofs.collective.reduce_arguments.Goals as goal

pub returns-in_err-send-clause-reads : goal.returns-in_err-send-clause-reads
returns-in_err-send-clause-reads c = passed_on _ _ _ _ _ _ _ c.from_residual.ensures.1 (fails_from _ (λ k z h. f_before e _ h) c.in_err-send.ensures.reads)

pub returns-in_err-receive-clause-reads : goal.returns-in_err-receive-clause-reads
returns-in_err-receive-clause-reads c = passed_on _ _ _ _ _ _ _ c.from_residual-in_err-receive.ensures.1 (fails_from _ (λ k z h. f_more e c.in_ok-send.ensures.reads (f_before (comma ⊳ Ref grammar.Buffer) _ h)) c.in_err-receive.ensures.reads)

pub returns-in_err-operation-clause-reads : goal.returns-in_err-operation-clause-reads
returns-in_err-operation-clause-reads c = stop_passed_on _ _ _ _ _ _ _ c.from_residual-in_err-operation.ensures.1 (stops_from _ (λ k z h. f_more e c.in_ok-send.ensures.reads (f_more (comma ⊳ Ref grammar.Buffer) c.in_ok-receive.ensures.reads (h))) c.in_err-operation.ensures.reads)

pub returns-clause-reads : goal.returns-clause-reads
returns-clause-reads c = (r_more e c.in_ok-send.ensures.reads (r_more (comma ⊳ Ref grammar.Buffer) c.in_ok-receive.ensures.reads c.in_ok-operation.ensures.reads))
