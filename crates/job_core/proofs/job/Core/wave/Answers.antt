use Rattle.std.proofs.Common.{◌<◌, arith, ◌≡◌, true, false, not, sym, ap, ◌∙◌}
use Rattle.std.specs.Prelude.{◌&&◌}
use Rattle.core_laws.specs.CoreTies.{logs_of}
use Rattle.job_network.specs.Controls.{may_start}
use Rattle.job_core.proofs.Events.{comes_no_wave, comes_began}
use Rattle.std.proofs.Common.{[]}
use Rattle.core_laws.specs.CoreEvents.{Single}
use Rattle.core_laws.specs.Quiet.{Begin_wave}
use Rattle.job_core.proofs.Standing.{stands_next, stay_same}
use Rattle.job_core.proofs.job.Core.wave.Goals as goal

pub returns-then-index-clause-comes : goal.returns-then-index-clause-comes
returns-then-index-clause-comes g c turns n first m regular h =
    let some : 0 < n = omega (arith, c.requires.stands.4, c.requires.stands.3.ranks, h.ranks) in
    let killed : m.killed 0 ≡ true = sym (c.index.ensures ∙ h.holds.killed.each 0 c.index.result.now some) ∙ c.if-index.true in
    comes_no_wave g.P.Process.ended g.P.Process.bytes g.P.Process.among g.P.Process.saved turns n first m c.args.self.now (ap (λ z. not z && may_start n m.protocol) killed) h

pub returns-clause-comes : goal.returns-clause-comes
returns-clause-comes g c turns n first m regular h =
    let some : 0 < n = omega (arith, c.requires.stands.4, c.requires.stands.3.ranks, h.ranks) in
    let alive : m.killed 0 ≡ false = sym (c.index.ensures ∙ h.holds.killed.each 0 c.index.result.now some) ∙ c.if-index.false in
    comes_began g.P.Process.ended g.P.Process.bytes g.P.Process.among g.P.Process.saved turns n first m c.args.self.now c.start.new.self regular alive h (c.in_ok-start.ensures n m.protocol (logs_of m) (record { ranks = h.ranks; stands = h.holds.network }) some).1

pub returns-clause-stands : goal.returns-clause-stands
returns-clause-stands g c = stands_next g.P.Process.ended g.P.Process.bytes g.P.Process.among g.P.Process.serial g.P.Process.saved g.P.Process.turned g.P.Process.answered g.P.Process.again c.args.self.now.events c.args.self.now (record c.args.self.now { network = c.start.new.self }) (Single Begin_wave) [] tt c.requires.stands (λ n first m h. stay_same n c.args.self.now.members.items) (returns-clause-comes g c)
