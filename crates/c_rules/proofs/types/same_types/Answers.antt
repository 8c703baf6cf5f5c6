use Rattle.std.proofs.Common.{◌∙◌, sym}
use Rattle.c_rules.proofs.Lists.{fewer_types}
use Rattle.c_rules.proofs.types.same_types.Goals as goal

pub returns-in-empty : goal.returns-in-empty
returns-in-empty c = sym (fewer_types c.args.a.now c.loop-t.rest.now c.loop-t.t-index c.in-empty.len_below c.loop-t-test.true) ∙ c.loop-t.invariant
