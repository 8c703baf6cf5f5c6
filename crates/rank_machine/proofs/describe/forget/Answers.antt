use Rattle.rank_machine.proofs.Descriptions.{blocks_cut, serials_cut}
use Rattle.rank_machine.proofs.describe.forget.Goals as goal

pub returns-clause-blocks : goal.returns-clause-blocks
returns-clause-blocks c = rw c.cut.ensures (blocks_cut c.args.count c.args.described.now)

pub returns-clause-serials : goal.returns-clause-serials
returns-clause-serials c = rw c.cut.ensures (serials_cut c.args.count c.args.described.now)
