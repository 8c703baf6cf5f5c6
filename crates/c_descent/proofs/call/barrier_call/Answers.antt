use Rattle.c_tree.specs.declared.token.Class.TheVariants as class
use Rattle.c_tree.specs.declared.token.Call.TheVariants as call
use Rattle.c_grammar.specs.Grammar.{◌⊳◌, placed, word}
use Rattle.c_grammar.proofs.Steps.{stop_found, stops_from, f_first, f_ref, f_second, r_deeper, r_end, r_ref}
use Rattle.c_descent.proofs.CallSteps.{f_before, f_more, r_more}
use Rattle.c_descent.proofs.call.barrier_call.Goals as goal

pub returns-in_err-at-clause-reads : goal.returns-in_err-at-clause-reads
returns-in_err-at-clause-reads c = stop_found _ _ _ _ _ _ _ c.from_residual.ensures.1 (stops_from _ (λ k z h. f_ref (f_before (placed (class.Mpi call.Barrier) ⊳ word class.LeftParen) _ h)) c.in_err-at.ensures.reads)

pub returns-in_err-rest-clause-reads : goal.returns-in_err-rest-clause-reads
returns-in_err-rest-clause-reads c = stop_found _ _ _ _ _ _ _ c.from_residual-in_err-rest.ensures.1 (stops_from _ (λ k z h. f_ref (f_more (placed (class.Mpi call.Barrier) ⊳ word class.LeftParen) c.in_ok-at.ensures.reads (f_first (r_deeper (h))))) c.in_err-rest.ensures.reads)

pub returns-in_err-rest-2-clause-reads : goal.returns-in_err-rest-2-clause-reads
returns-in_err-rest-2-clause-reads c = stop_found _ _ _ _ _ _ _ c.from_residual-in_err-rest-2.ensures.1 (stops_from _ (λ k z h. f_ref (f_more (placed (class.Mpi call.Barrier) ⊳ word class.LeftParen) c.in_ok-at.ensures.reads (f_second (r_deeper c.in_ok-rest.ensures.reads) h))) c.in_err-rest-2.ensures.reads)

pub returns-clause-reads : goal.returns-clause-reads
returns-clause-reads c = r_ref (r_more (placed (class.Mpi call.Barrier) ⊳ word class.LeftParen) c.in_ok-at.ensures.reads (r_end (r_deeper c.in_ok-rest.ensures.reads) c.in_ok-rest-2.ensures.reads))
