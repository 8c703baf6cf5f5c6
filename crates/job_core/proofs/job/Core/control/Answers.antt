use Rattle.std.proofs.Common.{◌≡◌, ◌+◌, ◌<◌, true, false, not, sym, ap, ◌∙◌, subst, arith}
use Rattle.std.specs.Prelude.{◌&&◌, nat_lt}
use Rattle.std.proofs.lemmas.Result.{IfOk-weaker}
use Rattle.core_laws.specs.Quiet.{Handle}
use Rattle.core_laws.specs.CoreEvents.{Single}
use Rattle.core_laws.specs.CoreTies.{logs_of}
use Rattle.job_core.specs.Cores.{Comes, Stay}
use Rattle.job_core.proofs.Deliveries.{on_any}
use Rattle.job_core.specs.Effects.{written_by}
use Rattle.job_network.specs.Members.{running_of}
use Rattle.job_core.proofs.Events.{takes, comes_not_handled, comes_handled, part_is, takes_none, takes_past, takes_all, first_of, below, member_ops}
use Rattle.job_core.proofs.Standing.{stands_on, stay_same}
use Rattle.job_core.proofs.job.Core.control.Goals.{then-self-from-via-then-self-from, then-self-from-via-else-self-from+then-not-takes_part}
use Rattle.job_core.proofs.job.Core.control.Goals as goal

pub returns-then-self-from-clause-comes : goal.returns-then-self-from-clause-comes
returns-then-self-from-clause-comes g c turns n first m h =
    let none : takes n m c.args.from c.args.to ≡ false = elim c.then-self-from.branch [
      | then-self-from-via-then-self-from w ↦ takes_past n m c.args.from c.args.to (omega (arith, w.if-self-from.true, h.ranks))
      | then-self-from-via-else-self-from+then-not-takes_part w ↦ takes_none n m c.args.from c.args.to (sym (part_is g.P.Process.ended g.P.Process.bytes g.P.Process.among n first c.args.self.now m c.args.to h) ∙ sym w.takes_part.ensures ∙ w.if-not-takes_part.true)
    ] in
    subst (Comes g.P.Process.ended g.P.Process.bytes g.P.Process.among g.P.Process.saved turns n first m (Single (Handle c.args.from c.args.to)) c.args.self.now) (sym c.new.ensures)
    (comes_not_handled g.P.Process.ended g.P.Process.bytes g.P.Process.among g.P.Process.saved turns n first m c.args.self.now c.args.from c.args.to none h)

pub returns-clause-comes : goal.returns-clause-comes
returns-clause-comes g c turns n first m h =
    let a : c.args.from < n = omega (arith, c.if-self-from.false, h.ranks) in
    let part : (nat_lt c.args.to n && not (m.killed c.args.to)) ≡ true = sym (part_is g.P.Process.ended g.P.Process.bytes g.P.Process.among n first c.args.self.now m c.args.to h) ∙ sym c.takes_part.ensures ∙ c.if-not-takes_part.false in
    let b : c.args.to < n = below c.args.to n (first_of (nat_lt c.args.to n) (not (m.killed c.args.to)) part) in
    let counted : (m.protocol.layer c.args.to).logging ≡ true → c.index.result.now.ops ≡ first c.args.to + (m.written c.args.to).ops = λ logging.
    member_ops c.args.self.now.members.items c.from.result c.args.to c.index.result.now c.from.ensures c.index.ensures (omega (arith, b, h.members.size)) ∙ h.holds.ops c.args.to (running_of c.index.result.now) b logging in
    let got = c.in_ok-handled.ensures n m.protocol (logs_of m) (record { ranks = h.ranks; stands = h.holds.network }) a b in
    IfOk-weaker c.effects_of.result
    (λ effects. effects ≡ written_by c.args.to c.in_ok-handled.handled)
    (λ effects. Comes g.P.Process.ended g.P.Process.bytes g.P.Process.among g.P.Process.saved turns n first m (Single (Handle c.args.from c.args.to)) (record c.args.self.now { network = c.handle.new.self }) effects)
    (λ effects e. comes_handled g.P.Process.ended g.P.Process.bytes g.P.Process.among g.P.Process.saved turns n first m c.args.self.now c.args.from c.args.to c.index.result.now.ops c.handle.new.self effects (takes_all n m c.args.from c.args.to a part) counted h (e ∙ ap (written_by c.args.to) got.0) got.1)
    c.effects_of.ensures

pub returns-clause-stands : goal.returns-clause-stands
returns-clause-stands g c = stands_on g.P.Process.ended g.P.Process.bytes g.P.Process.among g.P.Process.serial g.P.Process.saved g.P.Process.turned g.P.Process.answered g.P.Process.again c.args.self.now.events c.effects_of.result c.args.self.now (record c.args.self.now { network = c.handle.new.self }) (Single (Handle c.args.from c.args.to)) tt c.requires.stands (λ n first m h. on_any c.effects_of.result (Stay n c.args.self.now.members.items c.args.self.now.members.items) (stay_same n c.args.self.now.members.items)) (λ turns n first m _ h. returns-clause-comes g c turns n first m h)
