use Rattle.std.proofs.Common.{◌+◌, ◌*◌, ◌-◌, arith}
use Rattle.rank_image.proofs.Comes.{returning}
use Rattle.rank_image.proofs.back.come_to_mark.Goals as goal

pub reenter-requires : goal.reenter-requires
reenter-requires c =
    let i = c.loop.invariant in
    returning c.args.machine.now.functions c.loop.machine (2 * c.args.calls - c.loop.counter) (2 * c.args.calls - (c.loop.counter + 1)) i.leads.0 i.functions i.left (omega arith) i.leads.1 i.leads.3
