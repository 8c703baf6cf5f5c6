use Rattle.std.proofs.Common.{ap, ◌∙◌}
use Rattle.std.proofs.lemmas.Result.{IfOk-weaker}
use Rattle.c_meaning.specs.Step.{body_of}
use Rattle.c_meaning.specs.Running.{todo_of, call_of, below, state_of}
use Rattle.c_meaning.proofs.Follows.{items_more}
use Rattle.c_meaning.proofs.Same.{came_back}
use Rattle.c_meaning.proofs.running.Running.come_back.Goals as goal

pub returns-in-Some : goal.returns-in-Some
returns-in-Some c =
    let fs = c.args.functions.now in
    let body = body_of fs c.args.caller.now.function in
    let e = ap (todo_of body) c.in-Some.ensures.items ∙ items_more body c.pop.new.self.items c.in-Some.level in
    IfOk-weaker c.come_back_at.result _ _ (λ did p. p ∙ came_back (state_of fs c.args.self.now) (call_of fs c.args.caller.now) (todo_of body c.pop.new.self.items) (below fs c.args.self.now) _ c.args.v e) c.come_back_at.ensures
