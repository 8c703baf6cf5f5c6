use Rattle.std.proofs.Common.{◌≡◌}
use Rattle.rank_image.proofs.Beginnings.{begins_so}
use Rattle.rank_image.proofs.process.RankProcessProcess.begin.Goals as goal

pub invariant_of-result : goal.invariant_of-result
invariant_of-result c =
    let new = c.in_ok-machine.ensures in
    (begins_so c.args.code.now.value c.args.rank c.args.ranks c.in_ok-machine.machine c.requires.right (record { functions = new.functions; start = new.start; stack = new.stack; heap = new.heap; end = new.end; left = new.left; begun = new.begun })).sound

pub returns-clause-serial : goal.returns-clause-serial
returns-clause-serial c =
    let new = c.in_ok-machine.ensures in
    (begins_so c.args.code.now.value c.args.rank c.args.ranks c.in_ok-machine.machine c.requires.right (record { functions = new.functions; start = new.start; stack = new.stack; heap = new.heap; end = new.end; left = new.left; begun = new.begun })).serial
