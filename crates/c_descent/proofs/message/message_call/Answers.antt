use Rattle.std.proofs.Common.{◌≡◌, true, false}
use Rattle.c_grammar.specs.Grammar as grammar
use Rattle.c_grammar.specs.Grammar.{Ref, ◌⊳◌, comma, datatype, e, one_of, operation, placed, word, world}
use Rattle.c_grammar.specs.Meaning.{starts}
use Rattle.c_grammar.specs.Trees.{call_tree}
use Rattle.c_grammar.proofs.Steps.{r_left, r_right}
use Rattle.c_descent.proofs.CallSteps.{passes}
use Rattle.c_descent.proofs.message.message_call.Goals as goal

pub returns-then-next_is-clause-reads : goal.returns-then-next_is-clause-reads
returns-then-next_is-clause-reads c =
    let q0 : starts (Ref grammar.SendCall) c.args.tokens.now ≡ true = cc in
    passes (λ x. call_tree x.0) (λ x. x.1.now) c.send_call.result (λ x h. r_left q0 h) c.send_call.ensures.reads

pub returns-then-next_is-2-clause-reads : goal.returns-then-next_is-2-clause-reads
returns-then-next_is-2-clause-reads c =
    let q0 : starts (Ref grammar.SendCall) c.args.tokens.now ≡ false = cc in
    let q1 : starts (Ref grammar.RecvCall) c.args.tokens.now ≡ true = cc in
    passes (λ x. call_tree x.0) (λ x. x.1.now) c.recv_call.result (λ x h. r_right q0 (r_left q1 h)) c.recv_call.ensures.reads

pub returns-then-next_is-3-clause-reads : goal.returns-then-next_is-3-clause-reads
returns-then-next_is-3-clause-reads c =
    let q0 : starts (Ref grammar.SendCall) c.args.tokens.now ≡ false = cc in
    let q1 : starts (Ref grammar.RecvCall) c.args.tokens.now ≡ false = cc in
    let q2 : starts (Ref grammar.GetCountCall) c.args.tokens.now ≡ true = cc in
    passes (λ x. call_tree x.0) (λ x. x.1.now) c.get_count_call.result (λ x h. r_right q0 (r_right q1 (r_left q2 h))) c.get_count_call.ensures.reads

pub returns-clause-reads : goal.returns-clause-reads
returns-clause-reads c =
    let q0 : starts (Ref grammar.SendCall) c.args.tokens.now ≡ false = cc in
    let q1 : starts (Ref grammar.RecvCall) c.args.tokens.now ≡ false = cc in
    let q2 : starts (Ref grammar.GetCountCall) c.args.tokens.now ≡ false = cc in
    passes (λ x. call_tree x.0) (λ x. x.1.now) c.collective_call.result (λ x h. r_right q0 (r_right q1 (r_right q2 h))) c.collective_call.ensures.reads
