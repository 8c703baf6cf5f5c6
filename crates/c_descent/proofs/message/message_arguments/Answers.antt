use Rattle.c_grammar.specs.Grammar as grammar
use Rattle.c_grammar.specs.Grammar.{Ref, ◌⊳◌, comma, datatype, e, one_of, operation, placed, word, world}
use Rattle.c_grammar.proofs.Steps.{passed_on, fails_from}
use Rattle.c_descent.proofs.CallSteps.{f_before, f_more, r_more}
use Rattle.c_descent.proofs.message.message_arguments.Goals as goal

pub returns-in_err-buffer-clause-reads : goal.returns-in_err-buffer-clause-reads
returns-in_err-buffer-clause-reads c = passed_on _ _ _ _ _ _ _ c.from_residual.ensures.1 (fails_from _ (λ k z h. f_before (Ref grammar.Buffer) _ h) c.in_err-buffer.ensures.reads)

pub returns-in_err-process-clause-reads : goal.returns-in_err-process-clause-reads
returns-in_err-process-clause-reads c = passed_on _ _ _ _ _ _ _ c.from_residual-in_err-process.ensures.1 (fails_from _ (λ k z h. f_more (Ref grammar.Buffer) c.in_ok-buffer.ensures.reads (h)) c.in_err-process.ensures.reads)

pub returns-clause-reads : goal.returns-clause-reads
returns-clause-reads c = (r_more (Ref grammar.Buffer) c.in_ok-buffer.ensures.reads c.in_ok-process.ensures.reads)
