use Rattle.std.proofs.Common.{◌∙◌}
use Rattle.std.proofs.lemmas.Result.{IfOk-weaker}
use Rattle.c_meaning.specs.Step.{body_of}
use Rattle.c_meaning.specs.Running.{call_of, below, state_of}
use Rattle.c_meaning.proofs.Same.{acted_set, acted_malloc}
use Rattle.c_meaning.proofs.running.Running.perform_action.Goals as goal

pub returns-in_ok-push-in-Malloc : goal.returns-in_ok-push-in-Malloc
returns-in_ok-push-in-Malloc c =
    let fs = c.args.functions.now in
    let s = state_of fs c.args.self.now in
    let e = c.in_ok-push-in-Malloc.ensures (body_of fs c.args.frame.now.function) in
    IfOk-weaker c.malloc.result _ _ (λ did p. p fs ∙ acted_malloc fs s (call_of fs c.args.frame.now) (below fs c.args.self.now) _ _ c.args.action.now c.in-Malloc.place c.in-Malloc.bytes c.in-Malloc.each e c.in-Malloc.is) c.malloc.ensures

pub returns-in_ok-push-in-Set : goal.returns-in_ok-push-in-Set
returns-in_ok-push-in-Set c =
    let fs = c.args.functions.now in
    let s = state_of fs c.args.self.now in
    let e = c.in_ok-push-in-Set.ensures (body_of fs c.args.frame.now.function) in
    IfOk-weaker c.set.result _ _ (λ did p. p fs ∙ acted_set fs s (call_of fs c.args.frame.now) (below fs c.args.self.now) _ _ c.args.action.now c.in-Set.place c.in-Set.value e c.in-Set.is) c.set.ensures
