use Rattle.std.proofs.Common.{ap}
use Rattle.c_tree.specs.declared.token.Class.TheVariants as class
use Rattle.c_tree.specs.declared.token.Call.TheVariants as call
use Rattle.c_tree.specs.declared.token.Value.TheVariants as value
use Rattle.c_grammar.specs.Grammar as grammar
use Rattle.c_grammar.specs.Grammar.{Ref, ◌⊳◌, comma, datatype, e, one_of, operation, placed, word, world}
use Rattle.c_grammar.specs.Meaning.{Forest, leaf, node, none, ◌+++◌}
use Rattle.c_grammar.specs.Trees.{buffer_tree, expression_tree, status_tree}
use Rattle.c_grammar.proofs.Steps.{passed_on, stop_passed_on, fails_from, stops_from, f_first, f_ref, f_second, forest_assoc, r_deeper, r_end, r_ref, r_same}
use Rattle.c_descent.proofs.CallSteps.{f_before, f_more, r_more}
use Rattle.c_descent.proofs.message.recv_call.Goals as goal

pub returns-in_err-at-clause-reads : goal.returns-in_err-at-clause-reads
returns-in_err-at-clause-reads c = stop_passed_on _ _ _ _ _ _ _ c.from_residual.ensures.1 (stops_from _ (λ k z h. f_ref (f_before (placed (class.Mpi call.Recv) ⊳ word class.LeftParen) _ h)) c.in_err-at.ensures.reads)

pub returns-in_err-message-clause-reads : goal.returns-in_err-message-clause-reads
returns-in_err-message-clause-reads c = passed_on _ _ _ _ _ _ _ c.from_residual-in_err-message.ensures.1 (fails_from _ (λ k z h. f_ref (f_more (placed (class.Mpi call.Recv) ⊳ word class.LeftParen) c.in_ok-at.ensures.reads (f_first (r_deeper (f_before (Ref grammar.Buffer ⊳ comma ⊳ e ⊳ comma ⊳ e ⊳ comma ⊳ world) _ h))))) c.in_err-message.ensures.reads)

pub returns-in_err-status-clause-reads : goal.returns-in_err-status-clause-reads
returns-in_err-status-clause-reads c = passed_on _ _ _ _ _ _ _ c.from_residual-in_err-status.ensures.1 (fails_from _ (λ k z h. f_ref (f_more (placed (class.Mpi call.Recv) ⊳ word class.LeftParen) c.in_ok-at.ensures.reads (f_first (r_deeper (f_more (Ref grammar.Buffer ⊳ comma ⊳ e ⊳ comma ⊳ e ⊳ comma ⊳ world) c.in_ok-message.ensures.reads (h)))))) c.in_err-status.ensures.reads)

pub returns-in_err-rest-clause-reads : goal.returns-in_err-rest-clause-reads
returns-in_err-rest-clause-reads c = stop_passed_on _ _ _ _ _ _ _ c.from_residual-in_err-rest.ensures.1 (stops_from _ (λ k z h. f_ref (f_more (placed (class.Mpi call.Recv) ⊳ word class.LeftParen) c.in_ok-at.ensures.reads (f_second (r_deeper (r_more (Ref grammar.Buffer ⊳ comma ⊳ e ⊳ comma ⊳ e ⊳ comma ⊳ world) c.in_ok-message.ensures.reads c.in_ok-status.ensures.reads)) h))) c.in_err-rest.ensures.reads)

pub returns-clause-reads : goal.returns-clause-reads
returns-clause-reads c = rw (c.into_inner.ensures, c.into_inner-2.ensures) (r_same (r_ref (r_more (placed (class.Mpi call.Recv) ⊳ word class.LeftParen) c.in_ok-at.ensures.reads (r_end (r_deeper (r_more (Ref grammar.Buffer ⊳ comma ⊳ e ⊳ comma ⊳ e ⊳ comma ⊳ world) c.in_ok-message.ensures.reads c.in_ok-status.ensures.reads)) c.in_ok-rest.ensures.reads))) (ap (λ (f : Forest). node grammar.RecvCall (leaf (class.Mpi call.Recv) value.Nothing c.in_ok-at.at (buffer_tree c.in_ok-message.message.buffer +++ f)) none) (forest_assoc (expression_tree c.in_ok-message.message.process) (expression_tree c.in_ok-message.message.tag) (status_tree c.in_ok-status.status))))
