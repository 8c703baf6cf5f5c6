use Rattle.c_tree.specs.declared.token.Class.TheVariants as class
use Rattle.c_tree.specs.declared.token.Call.TheVariants as call
use Rattle.c_grammar.specs.Grammar as grammar
use Rattle.c_grammar.specs.Grammar.{Ref, ◌⊳◌, comma, datatype, e, one_of, operation, placed, word, world}
use Rattle.c_grammar.proofs.Steps.{passed_on, stop_passed_on, fails_from, stops_from, f_first, f_ref, f_second, r_deeper, r_end, r_ref}
use Rattle.c_descent.proofs.CallSteps.{f_before, f_more, r_more, r_more_end}
use Rattle.c_descent.proofs.collective.allreduce_call.Goals as goal

pub returns-in_err-at-clause-reads : goal.returns-in_err-at-clause-reads
returns-in_err-at-clause-reads c = stop_passed_on _ _ _ _ _ _ _ c.from_residual.ensures.1 (stops_from _ (λ k z h. f_ref (f_before (placed (class.Mpi call.Allreduce) ⊳ word class.LeftParen) _ h)) c.in_err-at.ensures.reads)

pub returns-in_err-arguments-clause-reads : goal.returns-in_err-arguments-clause-reads
returns-in_err-arguments-clause-reads c = passed_on _ _ _ _ _ _ _ c.from_residual-in_err-arguments.ensures.1 (fails_from _ (λ k z h. f_ref (f_more (placed (class.Mpi call.Allreduce) ⊳ word class.LeftParen) c.in_ok-at.ensures.reads (f_first (r_deeper (f_before (e ⊳ comma ⊳ Ref grammar.Buffer ⊳ comma ⊳ operation) _ h))))) c.in_err-arguments.ensures.reads)

pub returns-in_err-rest-clause-reads : goal.returns-in_err-rest-clause-reads
returns-in_err-rest-clause-reads c = stop_passed_on _ _ _ _ _ _ _ c.from_residual-in_err-rest.ensures.1 (stops_from _ (λ k z h. f_ref (f_more (placed (class.Mpi call.Allreduce) ⊳ word class.LeftParen) c.in_ok-at.ensures.reads (f_first (r_deeper (f_more (e ⊳ comma ⊳ Ref grammar.Buffer ⊳ comma ⊳ operation) c.in_ok-arguments.ensures.reads (h)))))) c.in_err-rest.ensures.reads)

pub returns-in_err-rest-2-clause-reads : goal.returns-in_err-rest-2-clause-reads
returns-in_err-rest-2-clause-reads c = stop_passed_on _ _ _ _ _ _ _ c.from_residual-in_err-rest-2.ensures.1 (stops_from _ (λ k z h. f_ref (f_more (placed (class.Mpi call.Allreduce) ⊳ word class.LeftParen) c.in_ok-at.ensures.reads (f_second (r_deeper (r_more (e ⊳ comma ⊳ Ref grammar.Buffer ⊳ comma ⊳ operation) c.in_ok-arguments.ensures.reads c.in_ok-rest.ensures.reads)) h))) c.in_err-rest-2.ensures.reads)

pub returns-clause-reads : goal.returns-clause-reads
returns-clause-reads c = rw c.into_inner.ensures (r_ref (r_more (placed (class.Mpi call.Allreduce) ⊳ word class.LeftParen) c.in_ok-at.ensures.reads (r_end (r_deeper (r_more_end (e ⊳ comma ⊳ Ref grammar.Buffer ⊳ comma ⊳ operation) c.in_ok-arguments.ensures.reads c.in_ok-rest.ensures.reads)) c.in_ok-rest-2.ensures.reads)))
