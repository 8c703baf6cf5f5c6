use Rattle.std.proofs.Common.{◌≡◌, length}
use Rattle.core_laws.specs.Replay.{Replaying, absorb}
use Rattle.core_laws.specs.CoreTies.{IsRunning}
use Rattle.job_network.specs.Members.{running_of}
use Rattle.job_network.proofs.member.Member.absorb.Given as goal

abbrev pub invariant-loop-self : goal.invariant-loop-self
invariant-loop-self g l = ((v : Replaying g.row.P.Denot) → IsRunning (running_of l.fn.self) v → (u : Replaying g.row.P.Denot) × IsRunning (running_of l.self) u × (absorb u.left u.rank u.log ≡ absorb v.left v.rank v.log)) × (l.self.ops ≡ l.fn.self.ops) × (l.self.end ≡ l.fn.self.end)

abbrev pub decreases-loop-self : goal.decreases-loop-self
decreases-loop-self g l = length l.self.log
