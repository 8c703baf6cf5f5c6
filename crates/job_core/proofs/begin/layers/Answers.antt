use Rattle.std.proofs.Common.{◌+◌, sym, subst, []}
use Rattle.core_laws.specs.CoreTies.{placed}
use Rattle.core_laws.specs.Ties.{AreBy}
use Rattle.job_network.specs.Networks.{IsPlaced}
use Rattle.job_core.specs.Beginning.{nothing_sent}
use Rattle.job_core.proofs.Beginnings.{are_push}
use Rattle.job_core.proofs.begin.layers.Goals as goal

pub loop-rank-preserved : goal.loop-rank-preserved
loop-rank-preserved c = subst (λ z. AreBy (IsPlaced c.args.ranks) (c.loop-rank.rank + 1) z (placed nothing_sent.layer (λ r. []))) (sym c.in_ok-push.ensures.items)
    (are_push (IsPlaced c.args.ranks) c.loop-rank.rank c.loop-rank.layers.items (placed nothing_sent.layer (λ r. [])) c.in_ok-new.field-0 c.in_ok-new.ensures c.loop-rank.invariant)
