use Rattle.std.proofs.Common.{ap}
use Rattle.c_tree.specs.declared.token.Class.TheVariants as class
use Rattle.c_tree.specs.declared.token.Value.TheVariants as value
use Rattle.c_grammar.specs.Grammar as grammar
use Rattle.c_grammar.specs.Grammar.{Ref, ◌⊳◌, comma, datatype, e, one_of, operation, placed, word, world}
use Rattle.c_grammar.specs.Meaning.{leaf, node, none}
use Rattle.c_grammar.specs.Trees.{expression_tree}
use Rattle.c_descent.specs.declared.ahead.Inquiry.{Inquiry}
use Rattle.c_descent.specs.Calls.{inquiries, inquiry_class}
use Rattle.c_grammar.proofs.Steps.{passed_on, stop_passed_on, fails_from, stops_from, f_first, f_ref, f_second, r_deeper, r_end, r_ref, r_same}
use Rattle.c_descent.proofs.CallSteps.{f_before, f_more, r_more}
use Rattle.c_descent.proofs.call.inquiry_call.Goals as goal

pub returns-in_err-at-clause-reads : goal.returns-in_err-at-clause-reads
returns-in_err-at-clause-reads c = stop_passed_on _ _ _ _ _ _ _ c.from_residual.ensures.1 (stops_from _ (λ k z h. f_ref (f_before (one_of inquiries) _ h)) (c.in_err-at.ensures.reads inquiry_class inquiries c.at_inquiry.ensures))

pub returns-in_err-rest-clause-reads : goal.returns-in_err-rest-clause-reads
returns-in_err-rest-clause-reads c = stop_passed_on _ _ _ _ _ _ _ c.from_residual-in_err-rest.ensures.1 (stops_from _ (λ k z h. f_ref (f_more (one_of inquiries) (c.in_ok-at.ensures.reads inquiry_class inquiries c.at_inquiry.ensures) (f_before (word class.LeftParen) _ h))) c.in_err-rest.ensures.reads)

pub returns-in_err-result-clause-reads : goal.returns-in_err-result-clause-reads
returns-in_err-result-clause-reads c = passed_on _ _ _ _ _ _ _ c.from_residual-in_err-result.ensures.1 (fails_from _ (λ k z h. f_ref (f_more (one_of inquiries) (c.in_ok-at.ensures.reads inquiry_class inquiries c.at_inquiry.ensures) (f_more (word class.LeftParen) c.in_ok-rest.ensures.reads (f_first (r_deeper (h)))))) c.in_err-result.ensures.reads)

pub returns-in_err-rest-2-clause-reads : goal.returns-in_err-rest-2-clause-reads
returns-in_err-rest-2-clause-reads c = stop_passed_on _ _ _ _ _ _ _ c.from_residual-in_err-rest-2.ensures.1 (stops_from _ (λ k z h. f_ref (f_more (one_of inquiries) (c.in_ok-at.ensures.reads inquiry_class inquiries c.at_inquiry.ensures) (f_more (word class.LeftParen) c.in_ok-rest.ensures.reads (f_second (r_deeper c.in_ok-result.ensures.reads) h)))) c.in_err-rest-2.ensures.reads)

pub returns-in-Rank-clause-reads : goal.returns-in-Rank-clause-reads
returns-in-Rank-clause-reads c = rw c.into_inner-result.ensures (r_same (r_ref (r_more (one_of inquiries) (c.in_ok-at.ensures.reads inquiry_class inquiries c.at_inquiry.ensures) (r_more (word class.LeftParen) c.in_ok-rest.ensures.reads (r_end (r_deeper c.in_ok-result.ensures.reads) c.in_ok-rest-2.ensures.reads)))) (ap (λ (i : Inquiry). node grammar.CommunicatorCall (leaf (inquiry_class i) value.Nothing c.in_ok-at.at (expression_tree c.in_ok-result.result)) none) c.in-Rank.is))

pub returns-in-Size-clause-reads : goal.returns-in-Size-clause-reads
returns-in-Size-clause-reads c = rw c.into_inner-result.ensures (r_same (r_ref (r_more (one_of inquiries) (c.in_ok-at.ensures.reads inquiry_class inquiries c.at_inquiry.ensures) (r_more (word class.LeftParen) c.in_ok-rest.ensures.reads (r_end (r_deeper c.in_ok-result.ensures.reads) c.in_ok-rest-2.ensures.reads)))) (ap (λ (i : Inquiry). node grammar.CommunicatorCall (leaf (inquiry_class i) value.Nothing c.in_ok-at.at (expression_tree c.in_ok-result.result)) none) c.in-Size.is))
