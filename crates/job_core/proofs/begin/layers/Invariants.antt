use Rattle.std.proofs.Common.{[]}
use Rattle.core_laws.specs.CoreTies.{placed}
use Rattle.core_laws.specs.Ties.{AreBy}
use Rattle.job_network.specs.Networks.{IsPlaced}
use Rattle.job_core.specs.Beginning.{nothing_sent}
use Rattle.job_core.proofs.begin.layers.Given as goal

abbrev pub invariant-loop-rank : goal.invariant-loop-rank
invariant-loop-rank l = AreBy (IsPlaced l.ranks) l.rank l.layers.items (placed nothing_sent.layer (λ r. []))
