use Rattle.std.proofs.Common.{◌+◌, ◌*◌, ◌-◌, arith}
use Rattle.rank_image.proofs.Comes.{returning}
use Rattle.restart_tests.proofs.recursion.come_to_mark.Goals as goal

pub reenter-requires : goal.reenter-requires
reenter-requires g c =
    let i = c.loop-k.invariant in
    returning c.args.machine.now.functions c.loop-k.machine (2 * c.args.calls - c.loop-k.k-counter) (2 * c.args.calls - (c.loop-k.k-counter + 1)) i.leads.0 i.functions i.left (omega arith) i.leads.1 i.leads.3
