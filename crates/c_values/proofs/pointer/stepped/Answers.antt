use Rattle.std.proofs.Common.{rules}
use Rattle.c_values.proofs.Wide.{stepped_back}
use Rattle.c_values.proofs.pointer.stepped.Goals as goal

pub returns-in-Back : goal.returns-in-Back
returns-in-Back c = rw c.in-Back.is (stepped_back c.args.place c.args.n c.args.cells _ _ _ c.ranges.place c.ranges.n (search rules) c.from-in-Back.ensures c.from.ensures c.from-2.ensures)
