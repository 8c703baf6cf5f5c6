use Rattle.std.proofs.Common.{sym, ◌∙◌, ap, subst}
use Rattle.epoch_protocol.specs.Layers.{IsLayer}
use Rattle.job_network.specs.declared.handling.Handled.TheVariants as came
use Rattle.job_network.specs.Networks.{IsNet, network_of}
use Rattle.job_network.proofs.Nets.{layer_there, its_log, layer_same}
use Rattle.job_network.proofs.Handlings.{obeys_quietly, obeys_ready, obeys_stop}
use Rattle.job_network.proofs.network.Network.obey.Goals as goal

pub stop-requires : goal.stop-requires
stop-requires c =
    let n = c.requires.stands.0 in
    let p = c.requires.stands.1 in
    let logs = c.requires.stands.2 in
    let h = c.requires.stands.3 in
    let b = c.requires.stands.4.1 in
    let was = layer_there n (network_of c.args.self.now) p logs c.from.result c.args.to c.index_mut-layer.result.now c.from.ensures c.index_mut-layer.ensures.value b h.stands in
    let now = c.control.ensures n c.args.to (p.layer c.args.to) (its_log p logs c.args.to) was in
    let obeyed = obeys_stop n c.args.from c.args.to c.args.ops p logs c.args.control c.requires.obeys (sym now.0 ∙ c.in-StopNow.is) in
    (n, p, logs, record { ranks = h.ranks; stands = layer_same n (network_of c.args.self.now) p logs c.from.result c.args.to c.control.new.self c.from.ensures b (subst (λ l. IsLayer n c.args.to c.control.new.self l (its_log p logs c.args.to)) obeyed.layer now.1) h.stands }, b)

pub returns-in-Nothing : goal.returns-in-Nothing
returns-in-Nothing c n p logs h a b =
    let was = layer_there n (network_of c.args.self.now) p logs c.from.result c.args.to c.index_mut-layer.result.now c.from.ensures c.index_mut-layer.ensures.value b h.stands in
    let now = c.control.ensures n c.args.to (p.layer c.args.to) (its_log p logs c.args.to) was in
    let obeyed = obeys_quietly n (network_of c.args.self.now) p logs c.from.result c.args.from c.args.to c.args.ops c.args.control c.control.new.self c.from.ensures b c.requires.obeys (sym now.0 ∙ c.in-Nothing.is) now.1 h.stands in
    (obeyed.0, record { ranks = h.ranks; stands = obeyed.1 })

pub returns-in_ok-push-in-SendReady : goal.returns-in_ok-push-in-SendReady
returns-in_ok-push-in-SendReady c n p logs h a b =
    let was = layer_there n (network_of c.args.self.now) p logs c.from.result c.args.to c.index_mut-layer.result.now c.from.ensures c.index_mut-layer.ensures.value b h.stands in
    let now = c.control.ensures n c.args.to (p.layer c.args.to) (its_log p logs c.args.to) was in
    let obeyed = obeys_ready n (network_of c.args.self.now) p logs c.from.result c.args.from c.args.to c.args.ops c.epoch-line.result c.args.control c.control.new.self c.push.new.self c.from.ensures b c.requires.obeys (sym now.0 ∙ c.in-SendReady.is) c.epoch-line.ensures now.1 c.in_ok-push-in-SendReady.ensures h.stands in
    (obeyed.0, record { ranks = h.ranks; stands = obeyed.1 })

pub returns-in_ok-stop-in-StopNow : goal.returns-in_ok-stop-in-StopNow
returns-in_ok-stop-in-StopNow c n p logs h a b =
    let was = layer_there n (network_of c.args.self.now) p logs c.from.result c.args.to c.index_mut-layer.result.now c.from.ensures c.index_mut-layer.ensures.value b h.stands in
    let now = c.control.ensures n c.args.to (p.layer c.args.to) (its_log p logs c.args.to) was in
    let obeyed = obeys_stop n c.args.from c.args.to c.args.ops p logs c.args.control c.requires.obeys (sym now.0 ∙ c.in-StopNow.is) in
    let stopped = c.in_ok-stop-in-StopNow.ensures n p logs
    (record { ranks = h.ranks; stands = layer_same n (network_of c.args.self.now) p logs c.from.result c.args.to c.control.new.self c.from.ensures b (subst (λ l. IsLayer n c.args.to c.control.new.self l (its_log p logs c.args.to)) obeyed.layer now.1) h.stands }) b obeyed.logging in
    (ap came.Stopped stopped.0 ∙ obeyed.comes_to, subst (λ q. IsNet n c.stop.new.self q logs) obeyed.after stopped.1)
