use Rattle.core_laws.specs.Ties.{AreBy}
use Rattle.job_core.specs.Beginning.{IsBegun}
use Rattle.job_core.proofs.begin.members.Given as goal

abbrev pub invariant-loop-rank : goal.invariant-loop-rank
invariant-loop-rank g l = AreBy (IsBegun g.P.Process.ended g.P.Process.bytes g.P.Process.among g.P.Process.serial l.ranks) l.rank l.members.items (λ r. g.P.Process.begun l.code.value r l.ranks)
