use Rattle.std.proofs.Common.{sym, ◌∙◌}
use Rattle.std.proofs.lemmas.Result.{on_ok_weaker}
use Rattle.job_network.specs.Networks.{network_of}
use Rattle.job_network.proofs.Nets.{layer_there, its_log, not_ready, is_ready}
use Rattle.job_network.proofs.network.Network.ready.Goals as goal

pub returns-then-not-ready_due : goal.returns-then-not-ready_due
returns-then-not-ready_due c n p logs h b =
    let was = layer_there n (network_of c.args.self.now) p logs c.from.result c.args.rank c.index_mut-layer.result.now c.from.ensures c.index_mut-layer.ensures.value b h.stands in
    let now = c.ready_due.ensures n c.args.rank (p.layer c.args.rank) (its_log p logs c.args.rank) was in
    record { ranks = h.ranks; stands = not_ready n (network_of c.args.self.now) p logs c.from.result c.args.rank c.ready_due.new.self c.from.ensures b (sym now.0 ∙ c.if-not-ready_due.true) now.1 h.stands }

pub returns : goal.returns
returns c n p logs h b =
    let was = layer_there n (network_of c.args.self.now) p logs c.from.result c.args.rank c.index_mut-layer.result.now c.from.ensures c.index_mut-layer.ensures.value b h.stands in
    let now = c.ready_due.ensures n c.args.rank (p.layer c.args.rank) (its_log p logs c.args.rank) was in
    on_ok_weaker c.push.result
    (λ e. record { ranks = h.ranks; stands = is_ready n (network_of c.args.self.now) p logs c.from.result c.args.rank c.epoch-line.result c.ready_due.new.self c.push.new.self c.from.ensures b (sym now.0 ∙ c.if-not-ready_due.false) c.epoch-line.ensures now.1 e h.stands })
    c.push.ensures
