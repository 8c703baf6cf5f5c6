use Rattle.std.proofs.Common.{◌≡◌, sym, refl, ap, ◌∙◌, subst}
use Rattle.std.proofs.lemmas.Result.{IfOk-weaker}
use Rattle.mpi_words.specs.declared.operation.Want.{Want}
use Rattle.mpi_words.specs.declared.operation.Want.TheVariants as want
use Rattle.core_laws.specs.Pausing.{Stepping, Stepped, step_turn, with_machine}
use Rattle.job_network.proofs.Places.{none_of}
use Rattle.core_laws.specs.Process.{acted, Wants}
use Rattle.core_laws.specs.Replay.{Replaying}
use Rattle.job_network.specs.Wants.{Fits, FitsOp, end_of, stop_of}
use Rattle.job_network.specs.Members.{IsMember, MakesTurn, stepping_of}
use Rattle.job_network.proofs.Landings.{turn_wants}
use Rattle.job_network.proofs.member.Member.turn.Goals as goal

pub operate-requires-clause-fits : goal.operate-requires-clause-fits
operate-requires-clause-fits g c =
    let among = g.P.Process.among c.args.self.now.machine in
    (among, subst (λ b. FitsOp among b c.in-Wants.op) c.requires.bytes (subst (Fits among (g.P.Process.bytes c.args.self.now.machine)) c.in-Wants.is c.in_ok-turn.ensures.fits))

pub returns-in-Wants-clause-made : goal.returns-in-Wants-clause-made
returns-in-Wants-clause-made g c n begin v h =
    let P : Stepping g.row.P.Denot = stepping_of begin g.P.Process.turned g.P.Process.answered g.P.Process.again in
    let u : Replaying g.row.P.Denot = record v { rank = with_machine v.rank c.turn.new.self } in
    let is : IsMember g.P.Process.ended g.P.Process.bytes g.P.Process.among n (record c.args.self.now { machine = c.turn.new.self }) u = record {
      running = record { machine = refl; mail = h.running.mail; bytes = h.running.bytes; log = h.running.log; left = h.running.left };
      end = none_of c.args.self.now.end (sym c.is_some.ensures ∙ c.if-is_some.false) ∙ sym (c.in_ok-turn.ensures.ended ∙ ap end_of c.in-Wants.is);
      out = c.in_ok-turn.ensures.bytes ∙ h.out;
      ranks = c.in_ok-turn.ensures.among ∙ h.ranks;
    } in
    let fits : FitsOp n c.args.self.now.bytes c.in-Wants.op = subst (λ m. FitsOp m c.args.self.now.bytes c.in-Wants.op) h.ranks
    (subst (λ b. FitsOp (g.P.Process.among c.args.self.now.machine) b c.in-Wants.op) h.out (subst (Fits (g.P.Process.among c.args.self.now.machine) (g.P.Process.bytes c.args.self.now.machine)) c.in-Wants.is c.in_ok-turn.ensures.fits)) in
    let stopped : Want → Stepped g.row.P.Denot = λ w. record { machine = c.turn.new.self; stop = stop_of w } in
    let turned : g.P.Process.turned 4096 v.rank.machine ≡ stopped (want.Wants c.in-Wants.op) = ap (g.P.Process.turned 4096) (sym h.running.machine) ∙ c.in_ok-turn.ensures.turned ∙ ap stopped c.in-Wants.is in
    IfOk-weaker c.operate.result
    (λ did. MakesTurn g.P.Process.ended g.P.Process.bytes g.P.Process.among n c.args.self.now.ops c.operate.new.self did u (acted g.P.Process.answered u.rank (Wants c.in-Wants.op)))
    (λ did. MakesTurn g.P.Process.ended g.P.Process.bytes g.P.Process.among n c.args.self.now.ops c.operate.new.self did v (step_turn P v.rank))
    (λ did made. subst (MakesTurn g.P.Process.ended g.P.Process.bytes g.P.Process.among n c.args.self.now.ops c.operate.new.self did v) (sym (turn_wants P v.rank c.turn.new.self c.in-Wants.op turned))
    (record { did = made.did; printed = made.printed; goes = made.goes; ops = made.ops; member = made.member }))
    (c.operate.ensures.made n u is fits)
