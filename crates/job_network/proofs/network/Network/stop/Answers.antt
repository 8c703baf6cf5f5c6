use Rattle.std.proofs.Common.{◌∙◌, ap}
use Rattle.core_laws.specs.CoreTies.{log_while}
use Rattle.epoch_protocol.specs.Layers.{log_of}
use Rattle.job_network.specs.Networks.{network_of}
use Rattle.job_network.proofs.Nets.{layer_there, its_log, stops}
use Rattle.job_network.proofs.network.Network.stop.Goals as goal

pub returns : goal.returns
returns c n p logs h b logging =
    let was = layer_there n (network_of c.args.self.now) p logs c.from.result c.args.rank c.index_mut-layer.result.now c.from.ensures c.index_mut-layer.ensures.value b h.stands in
    let now = c.stop-log.ensures n c.args.rank (p.layer c.args.rank) (its_log p logs c.args.rank) was in (
      now.0 ∙ ap (λ l. log_of n c.args.rank (p.layer c.args.rank).epoch c.args.ops (log_while l (logs c.args.rank))) logging,
      record { ranks = h.ranks; stands = stops n (network_of c.args.self.now) p logs c.from.result c.args.rank c.epoch-line.result c.stop-log.new.self c.push.new.self c.from.ensures b (c.epoch-line.ensures ∙ was.epoch) now.1 c.in_ok-push.ensures h.stands },
    )
