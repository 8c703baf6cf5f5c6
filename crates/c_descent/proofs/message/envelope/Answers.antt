use Rattle.c_grammar.specs.Grammar.{◌⊳◌, comma, e}
use Rattle.c_grammar.proofs.Steps.{passed_on, fails_from}
use Rattle.c_descent.proofs.CallSteps.{f_before, f_more, r_more}
use Rattle.c_descent.proofs.message.envelope.Goals as goal

pub returns-in_err-process-clause-reads : goal.returns-in_err-process-clause-reads
returns-in_err-process-clause-reads c = passed_on _ _ _ _ _ _ _ c.from_residual.ensures.1 (fails_from _ (λ k z h. f_before (comma ⊳ e) _ h) c.in_err-process.ensures.reads)

pub returns-in_err-tag-clause-reads : goal.returns-in_err-tag-clause-reads
returns-in_err-tag-clause-reads c = passed_on _ _ _ _ _ _ _ c.from_residual-in_err-tag.ensures.1 (fails_from _ (λ k z h. f_more (comma ⊳ e) c.in_ok-process.ensures.reads (h)) c.in_err-tag.ensures.reads)

pub returns-clause-reads : goal.returns-clause-reads
returns-clause-reads c = (r_more (comma ⊳ e) c.in_ok-process.ensures.reads c.in_ok-tag.ensures.reads)
