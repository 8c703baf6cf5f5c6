use Rattle.std.proofs.Common.{Some, ap, refl}
use Rattle.job_network.specs.Networks.{network_of}
use Rattle.job_network.proofs.Nets.{layer_there, its_log, stops_there, goes_on_there, stopping_logs}
use Rattle.job_network.proofs.network.Network.stop_on.Goals as goal

pub returns-in_ok-stop-in-IntraAndStopped : goal.returns-in_ok-stop-in-IntraAndStopped
returns-in_ok-stop-in-IntraAndStopped c n p logs h b =
    let was = layer_there n (network_of c.args.self.now) p logs c.from.result c.args.rank c.index.result.now c.from.ensures c.index.ensures b h.stands in
    let e = stops_there (p.layer c.args.rank) c.args.label c.classify.result (c.classify.ensures n c.args.rank (p.layer c.args.rank) (its_log p logs c.args.rank) was) c.in-IntraAndStopped.is in
    let now = c.in_ok-stop-in-IntraAndStopped.ensures n p logs h b (stopping_logs (p.layer c.args.rank) c.args.label e) in
    rw e (ap Some now.0, now.1)

pub returns-in_default : goal.returns-in_default
returns-in_default c n p logs h b =
    let was = layer_there n (network_of c.args.self.now) p logs c.from.result c.args.rank c.index.result.now c.from.ensures c.index.ensures b h.stands in
    let e = goes_on_there (p.layer c.args.rank) c.args.label c.classify.result (c.classify.ensures n c.args.rank (p.layer c.args.rank) (its_log p logs c.args.rank) was) c.in_default.not-IntraAndStopped in
    rw e (refl, h)
