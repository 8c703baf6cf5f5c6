use Rattle.std.proofs.Common.{◌≡◌, suc, true, sym, ◌∙◌, subst, arith}
use Rattle.std.proofs.lemmas.Result.{IfOk-weaker}
use Rattle.core_laws.specs.CoreEvents.{Single}
use Rattle.core_laws.specs.Pausing.{Stepping, stepping, step_turn}
use Rattle.core_laws.specs.Quiet.{Turn}
use Rattle.job_network.specs.Members.{stepping_of}
use Rattle.job_core.specs.Cores.{Comes}
use Rattle.job_core.specs.Turns.{HasTurned, has_turn}
use Rattle.job_core.proofs.Standing.{stands_more}
use Rattle.job_core.proofs.Turnings.{comes_turned, comes_waits, stands_turned, turn_below}
use Rattle.job_core.proofs.job.Core.turn.Goals as goal

pub returns-then-not-has_turn-clause-comes : goal.returns-then-not-has_turn-clause-comes
returns-then-not-has_turn-clause-comes g c begin n first m regular h =
    let P : Stepping g.row.P.Denot = stepping_of begin g.P.Process.turned g.P.Process.answered g.P.Process.again in
    subst (Comes g.P.Process.ended g.P.Process.bytes g.P.Process.among g.P.Process.saved (stepping P) n first m (Single (Turn c.args.rank)) c.args.self.now) (sym c.new.ensures)
    (comes_waits g.P.Process.ended g.P.Process.bytes g.P.Process.among g.P.Process.saved (stepping P) n first m c.args.self.now c.args.rank (sym (c.has_turn.ensures n first m h) ∙ c.if-not-has_turn.true) h)

pub returns-then-not-has_turn-clause-stands : goal.returns-then-not-has_turn-clause-stands
returns-then-not-has_turn-clause-stands g c = stands_more g.P.Process.ended g.P.Process.bytes g.P.Process.among g.P.Process.serial g.P.Process.turned g.P.Process.answered g.P.Process.again c.args.self.now.events (suc c.args.self.now.events) c.args.self.now (omega arith) c.requires.stands

pub run-requires-clause-inside : goal.run-requires-clause-inside
run-requires-clause-inside g c =
    let n = c.requires.stands.0 in
    let m = c.requires.stands.2 in
    let h = c.requires.stands.3 in
    omega (arith, h.ranks, turn_below n m c.args.rank (sym (c.has_turn.ensures n c.requires.stands.1 m h) ∙ c.if-not-has_turn.false))

pub returns-clause-comes : goal.returns-clause-comes
returns-clause-comes g c begin n first m regular h =
    let P : Stepping g.row.P.Denot = stepping_of begin g.P.Process.turned g.P.Process.answered g.P.Process.again in
    let some : has_turn n m c.args.rank ≡ true = sym (c.has_turn.ensures n first m h) ∙ c.if-not-has_turn.false in
    IfOk-weaker c.run.result
    (HasTurned g.P.Process.ended g.P.Process.bytes g.P.Process.among g.P.Process.serial g.P.Process.saved n c.args.rank m (step_turn P (m.one c.args.rank).rank) c.args.self.now c.run.new.self)
    (Comes g.P.Process.ended g.P.Process.bytes g.P.Process.among g.P.Process.saved (stepping P) n first m (Single (Turn c.args.rank)) c.run.new.self)
    (λ effects turned. comes_turned g.P.Process.ended g.P.Process.bytes g.P.Process.among g.P.Process.serial g.P.Process.saved (stepping P) n first m c.args.self.now c.run.new.self c.args.rank effects regular h (turn_below n m c.args.rank some) some turned)
    (c.run.ensures.turned begin n first m regular h)

pub returns-clause-stands : goal.returns-clause-stands
returns-clause-stands g c = stands_turned g.P.Process.ended g.P.Process.bytes g.P.Process.among g.P.Process.serial g.P.Process.saved g.P.Process.turned g.P.Process.answered g.P.Process.again c.args.self.now.events c.args.rank c.run.result c.args.self.now c.run.new.self c.requires.stands
    (λ n first m h. let some : has_turn n m c.args.rank ≡ true = sym (c.has_turn.ensures n first m h) ∙ c.if-not-has_turn.false in (turn_below n m c.args.rank some, some))
    c.run.ensures.turned
