use Rattle.std.proofs.Common.{sym}
use Rattle.c_tree.specs.declared.token.Class.TheVariants as class
use Rattle.c_grammar.specs.Grammar as grammar
use Rattle.c_grammar.specs.Grammar.{Ref, ◌⊳◌, comma, datatype, e, one_of, operation, placed, word, world}
use Rattle.c_descent.specs.Calls.{distribution_class, distributions}
use Rattle.c_grammar.proofs.Steps.{passed_on, stop_passed_on, fails_from, stops_from, f_first, f_ref, f_second, r_deeper, r_end, r_ref, r_same}
use Rattle.c_descent.proofs.CallSteps.{f_before, f_more, r_more}
use Rattle.c_descent.proofs.collective.distribution_call.Goals as goal

pub returns-in_err-at-clause-reads : goal.returns-in_err-at-clause-reads
returns-in_err-at-clause-reads c = stop_passed_on _ _ _ _ _ _ _ c.from_residual.ensures.1 (stops_from _ (λ k z h. f_ref (f_before (one_of distributions) _ h)) (c.in_err-at.ensures.reads distribution_class distributions c.at_distribution.ensures))

pub returns-in_err-rest-clause-reads : goal.returns-in_err-rest-clause-reads
returns-in_err-rest-clause-reads c = stop_passed_on _ _ _ _ _ _ _ c.from_residual-in_err-rest.ensures.1 (stops_from _ (λ k z h. f_ref (f_more (one_of distributions) (c.in_ok-at.ensures.reads distribution_class distributions c.at_distribution.ensures) (f_before (word class.LeftParen) _ h))) c.in_err-rest.ensures.reads)

pub returns-in_err-buffers-clause-reads : goal.returns-in_err-buffers-clause-reads
returns-in_err-buffers-clause-reads c = passed_on _ _ _ _ _ _ _ c.from_residual-in_err-buffers.ensures.1 (fails_from _ (λ k z h. f_ref (f_more (one_of distributions) (c.in_ok-at.ensures.reads distribution_class distributions c.at_distribution.ensures) (f_more (word class.LeftParen) c.in_ok-rest.ensures.reads (f_first (r_deeper (f_before (Ref grammar.Buffer ⊳ comma ⊳ Ref grammar.Buffer) _ h)))))) c.in_err-buffers.ensures.reads)

pub returns-in_err-root-clause-reads : goal.returns-in_err-root-clause-reads
returns-in_err-root-clause-reads c = passed_on _ _ _ _ _ _ _ c.from_residual-in_err-root.ensures.1 (fails_from _ (λ k z h. f_ref (f_more (one_of distributions) (c.in_ok-at.ensures.reads distribution_class distributions c.at_distribution.ensures) (f_more (word class.LeftParen) c.in_ok-rest.ensures.reads (f_first (r_deeper (f_more (Ref grammar.Buffer ⊳ comma ⊳ Ref grammar.Buffer) c.in_ok-buffers.ensures.reads (h))))))) c.in_err-root.ensures.reads)

pub returns-in_err-rest-2-clause-reads : goal.returns-in_err-rest-2-clause-reads
returns-in_err-rest-2-clause-reads c = stop_passed_on _ _ _ _ _ _ _ c.from_residual-in_err-rest-2.ensures.1 (stops_from _ (λ k z h. f_ref (f_more (one_of distributions) (c.in_ok-at.ensures.reads distribution_class distributions c.at_distribution.ensures) (f_more (word class.LeftParen) c.in_ok-rest.ensures.reads (f_second (r_deeper (r_more (Ref grammar.Buffer ⊳ comma ⊳ Ref grammar.Buffer) c.in_ok-buffers.ensures.reads c.in_ok-root.ensures.reads)) h)))) c.in_err-rest-2.ensures.reads)

pub returns-clause-reads : goal.returns-clause-reads
returns-clause-reads c = r_same (r_ref (r_more (one_of distributions) (c.in_ok-at.ensures.reads distribution_class distributions c.at_distribution.ensures) (r_more (word class.LeftParen) c.in_ok-rest.ensures.reads (r_end (r_deeper (r_more (Ref grammar.Buffer ⊳ comma ⊳ Ref grammar.Buffer) c.in_ok-buffers.ensures.reads c.in_ok-root.ensures.reads)) c.in_ok-rest-2.ensures.reads)))) (rw (sym c.into_inner.ensures) (sym c.distributed-call.ensures))
