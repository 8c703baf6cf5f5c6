use Rattle.std.proofs.Common.{◌≡◌, ◌<◌, refl, ap, ◌∙◌, subst}
use Rattle.std.proofs.lemmas.Result.{IfOk-weaker}
use Rattle.core_laws.specs.Handling.{then_ready, then_stop}
use Rattle.core_laws.specs.Protocol.{move_arrive}
use Rattle.core_laws.specs.Quiet.{Deliver}
use Rattle.core_laws.specs.CoreEvents.{Single}
use Rattle.core_laws.specs.CoreTies.{logs_of}
use Rattle.job_network.specs.Networks.{logs_with}
use Rattle.job_core.specs.Cores.{Comes, HasMet, Stay}
use Rattle.job_core.specs.Effects.{logged_by}
use Rattle.job_core.proofs.Deliveries.{awaits_below, comes_met, met_stays, on_any}
use Rattle.job_core.proofs.job.Core.land.Goals as goal

pub returns-clause-comes : goal.returns-clause-comes
returns-clause-comes g c turns n ops first m net regular h a takes counted arrived =
    let b : c.args.to < n = awaits_below n m c.args.from c.args.to takes in
    let x = arrived.packet in
    let p = then_ready n (move_arrive (then_stop m.protocol c.args.to x) c.args.from c.args.to x.1.epoch arrived.rest) c.args.to in
    let logs = logs_with m.protocol (logs_of m) c.args.from c.args.to x.1 x.0 in
    let met = subst (λ z. HasMet g.P.Process.ended g.P.Process.bytes g.P.Process.among n c.args.from c.args.to z m.one p logs c.args.self.now c.meet.new.self) arrived.message (c.in_ok-meet.ensures.met n m.one p logs h.members arrived.net b) in
    IfOk-weaker c.logged.result
    (λ effects. effects ≡ logged_by c.args.to c.args.arrived.log)
    (λ effects. Comes g.P.Process.ended g.P.Process.bytes g.P.Process.among g.P.Process.saved turns n first m (Single (Deliver c.args.from c.args.to)) c.meet.new.self effects)
    (λ effects e. comes_met g.P.Process.ended g.P.Process.bytes g.P.Process.among g.P.Process.saved turns n first m (record c.args.self.now { network = net }) c.args.self.now c.meet.new.self c.args.from c.args.to ops x arrived.rest net effects regular refl h a b takes counted arrived.channel (e ∙ ap (logged_by c.args.to) arrived.log) met)
    c.logged.ensures

pub returns-clause-stay : goal.returns-clause-stay
returns-clause-stay g c n one p logs members net b = on_any c.logged.result (Stay n c.args.self.now.members.items c.meet.new.self.members.items) (met_stays g.P.Process.ended g.P.Process.bytes g.P.Process.among n c.args.from c.args.to c.args.arrived.message one p logs c.args.self.now c.meet.new.self b members (c.in_ok-meet.ensures.met n one p logs members net b))
