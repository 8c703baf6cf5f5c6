use Rattle.std.proofs.Common.{sym, ◌∙◌}
use Rattle.std.proofs.lemmas.Result.{on_ok_weaker}
use Rattle.job_network.specs.Networks.{network_of}
use Rattle.job_network.proofs.Nets.{layer_there, its_log, sent_nothing, sent_out}
use Rattle.job_network.proofs.network.Network.send.Goals as goal

pub returns-in-Suppressed : goal.returns-in-Suppressed
returns-in-Suppressed c n p logs h a b =
    let was = layer_there n (network_of c.args.self.now) p logs c.from.result c.args.from c.index_mut.result.now c.from.ensures c.index_mut.ensures.value a h.stands in
    let now = c.send.ensures n c.args.from (p.layer c.args.from) (its_log p logs c.args.from) was in
    record { ranks = h.ranks; stands = sent_nothing n (network_of c.args.self.now) p logs c.from.result c.args.from c.args.to c.args.message c.send.new.self c.from.ensures a (sym now.0 ∙ c.in-Suppressed.is) now.1 h.stands }

pub returns-in-Out : goal.returns-in-Out
returns-in-Out c n p logs h a b =
    let was = layer_there n (network_of c.args.self.now) p logs c.from.result c.args.from c.index_mut.result.now c.from.ensures c.index_mut.ensures.value a h.stands in
    let now = c.send.ensures n c.args.from (p.layer c.args.from) (its_log p logs c.args.from) was in
    on_ok_weaker c.push.result
    (λ e. record { ranks = h.ranks; stands = sent_out n (network_of c.args.self.now) p logs c.from.result c.args.from c.args.to c.args.message c.in-Out.label c.send.new.self c.push.new.self c.from.ensures a b (sym now.0 ∙ c.in-Out.is) now.1 e h.stands })
    c.push.ensures
