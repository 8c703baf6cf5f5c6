use Rattle.c_grammar.specs.Grammar.{◌⊳◌, comma, e}
use Rattle.c_grammar.proofs.Steps.{passed_on, stop_passed_on, fails_from, stops_from}
use Rattle.c_descent.proofs.CallSteps.{f_before, f_more, r_more_end}
use Rattle.c_descent.proofs.argument.last_argument.Goals as goal

pub returns-in_err-argument-clause-reads : goal.returns-in_err-argument-clause-reads
returns-in_err-argument-clause-reads c = passed_on _ _ _ _ _ _ _ c.from_residual.ensures.1 (fails_from _ (λ k z h. f_before (comma ⊳ e) _ h) c.in_err-argument.ensures.reads)

pub returns-in_err-rest-clause-reads : goal.returns-in_err-rest-clause-reads
returns-in_err-rest-clause-reads c = stop_passed_on _ _ _ _ _ _ _ c.from_residual-in_err-rest.ensures.1 (stops_from _ (λ k z h. f_more (comma ⊳ e) c.in_ok-argument.ensures.reads (h)) c.in_err-rest.ensures.reads)

pub returns-clause-reads : goal.returns-clause-reads
returns-clause-reads c = r_more_end (comma ⊳ e) c.in_ok-argument.ensures.reads c.in_ok-rest.ensures.reads
