use Rattle.std.proofs.Common.{ap, sym, ◌∙◌}
use Rattle.std.proofs.lemmas.Result.{IfOk-weaker}
use Rattle.c_memory.specs.Memory.{is_full}
use Rattle.c_meaning.specs.Step.{body_of, goes_on}
use Rattle.c_meaning.specs.Running.{todo_of, call_of, below, state_of}
use Rattle.c_meaning.proofs.Follows.{items_more}
use Rattle.c_meaning.proofs.Same.{same_step}
use Rattle.c_meaning.proofs.running.Running.go_on.Goals as goal

pub returns-in-Some : goal.returns-in-Some
returns-in-Some c =
    let fs = c.args.functions.now in
    let s = state_of fs c.args.self.now in
    let top = call_of fs c.args.frame.now in
    let body = body_of fs c.args.frame.now.function in
    let e = ap (todo_of body) c.in-Some.ensures.items ∙ items_more body c.pop.new.self.items c.in-Some.level in
    IfOk-weaker c.go_on_at.result _ _ (λ did p. p ∙ same_step fs is_full s s.calls top (todo_of body c.pop.new.self.items) (below fs c.args.self.now) _ ∙ ap (goes_on fs is_full s top (below fs c.args.self.now)) (sym e)) c.go_on_at.ensures
