use Rattle.std.proofs.Common.{arith}
use Rattle.std.proofs.lemmas.Bool.{le-ltb}
use Rattle.job_core.proofs.Events.{comes_killed, comes_no_rank}
use Rattle.std.proofs.Common.{true, []}
use Rattle.std.specs.Vec.{with_item}
use Rattle.core_laws.specs.CoreEvents.{Kill}
use Rattle.job_core.proofs.Standing.{stands_next, stay_same}
use Rattle.job_core.proofs.job.Core.kill.Goals as goal

pub returns-then-rank-self-clause-comes : goal.returns-then-rank-self-clause-comes
returns-then-rank-self-clause-comes g c turns n first m h = comes_killed g.P.Process.ended g.P.Process.bytes g.P.Process.among g.P.Process.saved turns n first m c.args.self.now c.from.result c.args.rank c.from.ensures (omega (arith, c.if-rank-self.true, h.ranks)) h

pub returns-else-rank-self-clause-comes : goal.returns-else-rank-self-clause-comes
returns-else-rank-self-clause-comes g c turns n first m h = comes_no_rank g.P.Process.ended g.P.Process.bytes g.P.Process.among g.P.Process.saved turns n first m c.args.self.now c.args.rank (le-ltb c.args.rank n (omega (arith, c.if-rank-self.false, h.ranks))) h

pub returns-then-rank-self-clause-stands : goal.returns-then-rank-self-clause-stands
returns-then-rank-self-clause-stands g c = stands_next g.P.Process.ended g.P.Process.bytes g.P.Process.among g.P.Process.serial g.P.Process.saved g.P.Process.turned g.P.Process.answered g.P.Process.again c.args.self.now.events c.args.self.now (record c.args.self.now { killed = with_item c.args.self.now.killed c.from.result true }) (Kill c.args.rank) [] tt c.requires.stands (λ n first m h. stay_same n c.args.self.now.members.items) (λ turns n first m _ h. returns-then-rank-self-clause-comes g c turns n first m h)
