use Rattle.std.proofs.Common.{◌≡◌, true, false}
use Rattle.c_grammar.specs.Grammar as grammar
use Rattle.c_grammar.specs.Grammar.{Ref, ◌⊳◌, comma, datatype, e, one_of, operation, placed, word, world}
use Rattle.c_grammar.specs.Meaning.{starts}
use Rattle.c_grammar.specs.Trees.{call_tree}
use Rattle.c_grammar.proofs.Steps.{stop_passed_on, stops_from, r_left, r_right}
use Rattle.c_descent.proofs.CallSteps.{passes}
use Rattle.c_descent.proofs.call.any_call.Goals as goal

pub returns-then-next_is-clause-reads : goal.returns-then-next_is-clause-reads
returns-then-next_is-clause-reads c =
    let q0 : starts (Ref grammar.InitCall) c.args.tokens.now ≡ true = cc in
    passes (λ x. call_tree x.0) (λ x. x.1.now) c.init_call.result (λ x h. r_left q0 h) c.init_call.ensures.reads

pub returns-then-next_is-2-clause-reads : goal.returns-then-next_is-2-clause-reads
returns-then-next_is-2-clause-reads c =
    let q0 : starts (Ref grammar.InitCall) c.args.tokens.now ≡ false = cc in
    let q1 : starts (Ref grammar.FinalizeCall) c.args.tokens.now ≡ true = cc in
    r_right q0 (r_left q1 c.in_ok-call.ensures.reads)

pub returns-then-next_is-3-clause-reads : goal.returns-then-next_is-3-clause-reads
returns-then-next_is-3-clause-reads c =
    let q0 : starts (Ref grammar.InitCall) c.args.tokens.now ≡ false = cc in
    let q1 : starts (Ref grammar.FinalizeCall) c.args.tokens.now ≡ false = cc in
    let q2 : starts (Ref grammar.BarrierCall) c.args.tokens.now ≡ true = cc in
    r_right q0 (r_right q1 (r_left q2 c.in_ok-call-2.ensures.reads))

pub returns-then-at_inquiry_call-clause-reads : goal.returns-then-at_inquiry_call-clause-reads
returns-then-at_inquiry_call-clause-reads c =
    let q0 : starts (Ref grammar.InitCall) c.args.tokens.now ≡ false = cc in
    let q1 : starts (Ref grammar.FinalizeCall) c.args.tokens.now ≡ false = cc in
    let q2 : starts (Ref grammar.BarrierCall) c.args.tokens.now ≡ false = cc in
    let q3 : starts (Ref grammar.CommunicatorCall) c.args.tokens.now ≡ true = cc in
    passes (λ x. call_tree x.0) (λ x. x.1.now) c.inquiry_call.result (λ x h. r_right q0 (r_right q1 (r_right q2 (r_left q3 h)))) c.inquiry_call.ensures.reads

pub returns-in_err-call-clause-reads : goal.returns-in_err-call-clause-reads
returns-in_err-call-clause-reads c =
    let q0 : starts (Ref grammar.InitCall) c.args.tokens.now ≡ false = cc in
    let q1 : starts (Ref grammar.FinalizeCall) c.args.tokens.now ≡ true = cc in
    stop_passed_on _ _ _ _ _ _ _ c.from_residual.ensures.1 (stops_from _ (λ k z h. r_right q0 (r_left q1 h)) c.in_err-call.ensures.reads)

pub returns-in_err-call-2-clause-reads : goal.returns-in_err-call-2-clause-reads
returns-in_err-call-2-clause-reads c =
    let q0 : starts (Ref grammar.InitCall) c.args.tokens.now ≡ false = cc in
    let q1 : starts (Ref grammar.FinalizeCall) c.args.tokens.now ≡ false = cc in
    let q2 : starts (Ref grammar.BarrierCall) c.args.tokens.now ≡ true = cc in
    stop_passed_on _ _ _ _ _ _ _ c.from_residual-in_err-call-2.ensures.1 (stops_from _ (λ k z h. r_right q0 (r_right q1 (r_left q2 h))) c.in_err-call-2.ensures.reads)

pub returns-clause-reads : goal.returns-clause-reads
returns-clause-reads c =
    let q0 : starts (Ref grammar.InitCall) c.args.tokens.now ≡ false = cc in
    let q1 : starts (Ref grammar.FinalizeCall) c.args.tokens.now ≡ false = cc in
    let q2 : starts (Ref grammar.BarrierCall) c.args.tokens.now ≡ false = cc in
    let q3 : starts (Ref grammar.CommunicatorCall) c.args.tokens.now ≡ false = cc in
    passes (λ x. call_tree x.0) (λ x. x.1.now) c.message_call.result (λ x h. r_right q0 (r_right q1 (r_right q2 (r_right q3 h)))) c.message_call.ensures.reads
