use Rattle.std.proofs.Common.{◌≡◌, suc, ◌-◌, true, false, sym, ◌∙◌, arith}
use Rattle.std.proofs.lemmas.Result.{IfOk-weaker}
use Rattle.rank_machine.specs.Placing.{begins}
use Rattle.rank_machine.specs.Running.{placing_of}
use Rattle.rank_machine.proofs.Turns.{went, began, paused}
use Rattle.rank_machine.proofs.Counted.{went_on, began_on, paused_on}
use Rattle.rank_machine.proofs.running.Running.part.Goals as goal

pub returns-then-not-begins-clause-turn : goal.returns-then-not-begins-clause-turn
returns-then-not-begins-clause-turn c =
    let fs = c.args.functions.now in
    let p = placing_of c.args.self.now in
    let b : begins fs p ≡ false = sym c.begins.ensures ∙ cc in
    IfOk-weaker c.wanted.result _ _ (λ want w. went fs c.args.left.now p (placing_of c.step.new.self) c.in_ok-did.did want b (record { outcome = c.in_ok-did.ensures.outcome; laid = c.in_ok-did.ensures.laid; wanted = w })) c.wanted.ensures

pub returns-then-not-begins-clause-function : goal.returns-then-not-begins-clause-function
returns-then-not-begins-clause-function c =
    let fs = c.args.functions.now in
    let p = placing_of c.args.self.now in
    let b : begins fs p ≡ false = sym c.begins.ensures ∙ cc in
    IfOk-weaker c.wanted.result _ _ (λ want w. went_on fs c.args.left.now p (placing_of c.step.new.self) c.in_ok-did.did want b (record { outcome = c.in_ok-did.ensures.outcome; laid = c.in_ok-did.ensures.laid; wanted = w })) c.wanted.ensures

pub returns-then-left-eq0-clause-turn : goal.returns-then-left-eq0-clause-turn
returns-then-left-eq0-clause-turn c =
    let fs = c.args.functions.now in
    let p = placing_of c.args.self.now in
    let b : begins fs p ≡ true = sym c.begins.ensures ∙ cc in
    paused fs c.args.left.now p (omega arith) b

pub returns-then-left-eq0-clause-function : goal.returns-then-left-eq0-clause-function
returns-then-left-eq0-clause-function c =
    let fs = c.args.functions.now in
    let p = placing_of c.args.self.now in
    let b : begins fs p ≡ true = sym c.begins.ensures ∙ cc in
    paused_on fs c.args.left.now p (omega arith) b

pub returns-clause-turn : goal.returns-clause-turn
returns-clause-turn c =
    let fs = c.args.functions.now in
    let p = placing_of c.args.self.now in
    let b : begins fs p ≡ true = sym c.begins.ensures ∙ cc in
    let f : c.args.left.now ≡ suc (c.args.left.now - 1) = omega arith in
    IfOk-weaker c.wanted-2.result _ _ (λ want w. began fs c.args.left.now (c.args.left.now - 1) p (placing_of c.step-2.new.self) c.in_ok-did-2.did want f b (record { outcome = c.in_ok-did-2.ensures.outcome; laid = c.in_ok-did-2.ensures.laid; wanted = w })) c.wanted-2.ensures

pub returns-clause-function : goal.returns-clause-function
returns-clause-function c =
    let fs = c.args.functions.now in
    let p = placing_of c.args.self.now in
    let b : begins fs p ≡ true = sym c.begins.ensures ∙ cc in
    let f : c.args.left.now ≡ suc (c.args.left.now - 1) = omega arith in
    IfOk-weaker c.wanted-2.result _ _ (λ want w. began_on fs c.args.left.now (c.args.left.now - 1) p (placing_of c.step-2.new.self) c.in_ok-did-2.did want f b (record { outcome = c.in_ok-did-2.ensures.outcome; laid = c.in_ok-did-2.ensures.laid; wanted = w })) c.wanted-2.ensures
