use Rattle.std.proofs.Common.{ap, refl, ◌∙◌}
use Rattle.std.proofs.lemmas.Result.{IfOk-weaker}
use Rattle.c_memory.specs.Memory.{is_full}
use Rattle.c_meaning.specs.Running.{todo, call_of, calls_of, state_of}
use Rattle.c_meaning.proofs.Follows.{calls_more}
use Rattle.c_meaning.proofs.Same.{stepped}
use Rattle.c_meaning.proofs.running.Running.step_in.Goals as goal

pub returns : goal.returns
returns c =
    let fs = c.args.functions.now in
    let e = ap (calls_of fs) c.in-Some.ensures.items ∙ calls_more fs c.pop.new.self.items c.in-Some.frame in
    IfOk-weaker c.follow.result _ _ (λ step p. p ∙ c.in_ok-did.ensures ∙ stepped fs is_full (state_of fs c.args.self.now) _ (call_of fs c.in-Some.frame) _ (todo fs c.in-Some.frame) _ e refl) c.follow.ensures
