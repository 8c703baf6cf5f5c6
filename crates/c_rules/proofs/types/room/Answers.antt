use Rattle.std.proofs.Common.{◌∙◌, sym, drop}
use Rattle.c_rules.proofs.Sizes.{no_room}
use Rattle.c_rules.proofs.types.room.Goals as goal

pub returns-then-all-gt8192 : goal.returns-then-all-gt8192
returns-then-all-gt8192 c = sym (no_room c.loop-n.all (drop c.loop-n.n-index c.args.sizes.now) c.if-all-gt8192.true) ∙ c.loop-n.invariant
