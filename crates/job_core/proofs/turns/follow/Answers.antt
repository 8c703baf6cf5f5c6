use Rattle.std.proofs.Common.{subst}
use Rattle.job_network.specs.Members.{MakesTurn}
use Rattle.job_core.proofs.Turnings.{followed_sent}
use Rattle.job_core.proofs.turns.follow.Goals as goal

pub mark-requires-clause-stands : goal.mark-requires-clause-stands
mark-requires-clause-stands g c = let room = c.requires.stands.4.0 in (c.requires.stands.0, c.requires.stands.1, c.requires.stands.2, c.requires.stands.3, (room.inside, room.saves))

pub returns-in_ok-send-in-Sent : goal.returns-in_ok-send-in-Sent
returns-in_ok-send-in-Sent g c n ops p logs v t made h b empty =
    let sent = subst (λ d. MakesTurn g.P.Process.ended g.P.Process.bytes g.P.Process.among n ops c.args.member.now d v t) c.in-Sent.is made in
    rw c.new-in-Sent.ensures (followed_sent g.P.Process.ended g.P.Process.bytes g.P.Process.among g.P.Process.saved n c.args.rank ops c.in-Sent.to c.in-Sent.message p logs c.args.member.now v t c.send.new.self sent (c.in_ok-send-in-Sent.ensures n p logs h b sent.goes))
