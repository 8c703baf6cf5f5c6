use Rattle.std.proofs.Common.{◌≡◌, ◌<◌, true, false, sym, ◌∙◌, ◌+◌, subst, arith}
use Rattle.std.specs.Prelude.{◌&&◌, nat_lt}
use Rattle.core_laws.specs.Quiet.{Deliver}
use Rattle.core_laws.specs.CoreEvents.{Single}
use Rattle.core_laws.specs.CoreTies.{logs_of}
use Rattle.job_network.specs.Members.{running_of}
use Rattle.job_network.specs.Networks.{Arrives}
use Rattle.job_network.proofs.Counts.{room_to_arrive}
use Rattle.job_core.specs.Cores.{Comes, awaits}
use Rattle.job_core.proofs.Events.{member_ops}
use Rattle.job_core.proofs.Deliveries.{awaits_below, comes_not_delivered, comes_empty, past, unmet}
use Rattle.job_core.proofs.Standing.{stands_next, stands_on, stay_same}
use Rattle.job_core.proofs.job.Core.deliver.Goals.{then-self-from-via-then-self-from, then-self-from-via-else-self-from+then-not-awaits}
use Rattle.job_core.proofs.job.Core.deliver.Goals as goal

pub returns-then-self-from-clause-comes : goal.returns-then-self-from-clause-comes
returns-then-self-from-clause-comes g c turns n first m regular h =
    let none : (nat_lt c.args.from n && awaits n m c.args.from c.args.to) ≡ false = elim c.then-self-from.branch [
      | then-self-from-via-then-self-from w ↦ past n m c.args.from c.args.to (omega (arith, w.if-self-from.true, h.ranks))
      | then-self-from-via-else-self-from+then-not-awaits w ↦ unmet n m c.args.from c.args.to (sym (w.awaits.ensures n first m h) ∙ w.if-not-awaits.true)
    ] in
    subst (Comes g.P.Process.ended g.P.Process.bytes g.P.Process.among g.P.Process.saved turns n first m (Single (Deliver c.args.from c.args.to)) c.args.self.now) (sym c.new.ensures)
    (comes_not_delivered g.P.Process.ended g.P.Process.bytes g.P.Process.among g.P.Process.saved turns n first m c.args.self.now c.args.from c.args.to none h)

pub index-requires : goal.index-requires
index-requires g c =
    let n = c.requires.stands.0 in
    let m = c.requires.stands.2 in
    let h = c.requires.stands.3 in
    omega (arith, c.args.self.now.members.ok.0, c.from.ensures, h.members.size, awaits_below n m c.args.from c.args.to (sym (c.awaits.ensures n c.requires.stands.1 m h) ∙ c.if-not-awaits.false))

pub arrive-requires : goal.arrive-requires
arrive-requires g c =
    let n = c.requires.stands.0 in
    let m = c.requires.stands.2 in
    let h = c.requires.stands.3 in
    let takes : awaits n m c.args.from c.args.to ≡ true = sym (c.awaits.ensures n c.requires.stands.1 m h) ∙ c.if-not-awaits.false in
    (n, m.protocol, logs_of m, record { ranks = h.ranks; stands = h.holds.network }, room_to_arrive n c.args.self.now.events c.args.from c.args.to m.protocol c.requires.few (omega (arith, c.if-self-from.false, h.ranks)) (awaits_below n m c.args.from c.args.to takes) c.requires.stands.5)

pub returns-in-None-clause-comes : goal.returns-in-None-clause-comes
returns-in-None-clause-comes g c turns n first m regular h =
    let a : c.args.from < n = omega (arith, c.if-self-from.false, h.ranks) in
    let takes : awaits n m c.args.from c.args.to ≡ true = sym (c.awaits.ensures n first m h) ∙ c.if-not-awaits.false in
    let b : c.args.to < n = awaits_below n m c.args.from c.args.to takes in
    let got = subst (Arrives n c.args.from c.args.to c.index.result.now.ops m.protocol (logs_of m) c.arrive.new.self) c.in-None.is (c.in_ok-arrive.ensures n m.protocol (logs_of m) (record { ranks = h.ranks; stands = h.holds.network }) a b) in
    subst (Comes g.P.Process.ended g.P.Process.bytes g.P.Process.among g.P.Process.saved turns n first m (Single (Deliver c.args.from c.args.to)) (record c.args.self.now { network = c.arrive.new.self })) (sym c.new-in-None.ensures)
    (comes_empty g.P.Process.ended g.P.Process.bytes g.P.Process.among g.P.Process.saved turns n first m c.args.self.now c.args.from c.args.to c.arrive.new.self a takes got.0 got.1 h)

pub land-requires-clause-size : goal.land-requires-clause-size
land-requires-clause-size g c =
    let n = c.requires.stands.0 in
    let m = c.requires.stands.2 in
    let h = c.requires.stands.3 in
    omega (arith, h.members.size, awaits_below n m c.args.from c.args.to (sym (c.awaits.ensures n c.requires.stands.1 m h) ∙ c.if-not-awaits.false))

pub land-requires-clause-stands : goal.land-requires-clause-stands
land-requires-clause-stands g c =
    let n = c.requires.stands.0 in
    let m = c.requires.stands.2 in
    let h = c.requires.stands.3 in
    let b : c.args.to < n = awaits_below n m c.args.from c.args.to (sym (c.awaits.ensures n c.requires.stands.1 m h) ∙ c.if-not-awaits.false) in
    let got = subst (Arrives n c.args.from c.args.to c.index.result.now.ops m.protocol (logs_of m) c.arrive.new.self) c.in-Some.is (c.in_ok-arrive.ensures n m.protocol (logs_of m) (record { ranks = h.ranks; stands = h.holds.network }) (omega (arith, c.if-self-from.false, h.ranks)) b) in
    (n, _, _, got.net, b)

pub returns-in-Some-clause-comes : goal.returns-in-Some-clause-comes
returns-in-Some-clause-comes g c turns n first m regular h =
    let a : c.args.from < n = omega (arith, c.if-self-from.false, h.ranks) in
    let takes : awaits n m c.args.from c.args.to ≡ true = sym (c.awaits.ensures n first m h) ∙ c.if-not-awaits.false in
    let b : c.args.to < n = awaits_below n m c.args.from c.args.to takes in
    let got = subst (Arrives n c.args.from c.args.to c.index.result.now.ops m.protocol (logs_of m) c.arrive.new.self) c.in-Some.is (c.in_ok-arrive.ensures n m.protocol (logs_of m) (record { ranks = h.ranks; stands = h.holds.network }) a b) in
    let counted : (m.protocol.layer c.args.to).logging ≡ true → c.index.result.now.ops ≡ first c.args.to + (m.written c.args.to).ops = λ logging.
    member_ops c.args.self.now.members.items c.from.result c.args.to c.index.result.now c.from.ensures c.index.ensures (omega (arith, b, h.members.size)) ∙ h.holds.ops c.args.to (running_of c.index.result.now) b logging in
    c.land.ensures.comes turns n c.index.result.now.ops first m c.args.self.now.network regular h a takes counted got

pub returns-in-None-clause-stands : goal.returns-in-None-clause-stands
returns-in-None-clause-stands g c = stands_next g.P.Process.ended g.P.Process.bytes g.P.Process.among g.P.Process.serial g.P.Process.saved g.P.Process.turned g.P.Process.answered g.P.Process.again c.args.self.now.events c.args.self.now (record c.args.self.now { network = c.arrive.new.self }) (Single (Deliver c.args.from c.args.to)) c.new-in-None.result tt c.requires.stands (λ n first m h. stay_same n c.args.self.now.members.items) (returns-in-None-clause-comes g c)

pub returns-in-Some-clause-stands : goal.returns-in-Some-clause-stands
returns-in-Some-clause-stands g c = stands_on g.P.Process.ended g.P.Process.bytes g.P.Process.among g.P.Process.serial g.P.Process.saved g.P.Process.turned g.P.Process.answered g.P.Process.again c.args.self.now.events c.land.result c.args.self.now c.land.new.self (Single (Deliver c.args.from c.args.to)) tt c.requires.stands (λ n first m h.
    let a : c.args.from < n = omega (arith, c.if-self-from.false, h.ranks) in
    let b : c.args.to < n = awaits_below n m c.args.from c.args.to (sym (c.awaits.ensures n first m h) ∙ c.if-not-awaits.false) in
    let got = subst (Arrives n c.args.from c.args.to c.index.result.now.ops m.protocol (logs_of m) c.arrive.new.self) c.in-Some.is (c.in_ok-arrive.ensures n m.protocol (logs_of m) (record { ranks = h.ranks; stands = h.holds.network }) a b) in
    c.land.ensures.stay n m.one _ _ h.members got.net b) (returns-in-Some-clause-comes g c)
