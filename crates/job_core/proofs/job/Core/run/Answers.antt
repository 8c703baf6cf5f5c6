use Rattle.std.proofs.Common.{◌<◌, refl, sym, ap, ◌∙◌, subst, arith, get_or}
use Rattle.std.specs.Vec.{with_item}
use Rattle.core_laws.specs.Core.{is_back, one_turned}
use Rattle.core_laws.specs.CoreTies.{logs_of}
use Rattle.core_laws.specs.Handling.{protocol_after}
use Rattle.core_laws.specs.Pausing.{Stepping, step_turn}
use Rattle.core_laws.proofs.Regularity.{regular_pausing}
use Rattle.job_network.specs.Members.{running_of, stepping_of}
use Rattle.job_core.specs.Cores.{IsWithin}
use Rattle.job_core.proofs.Deliveries.{back_is, told_back}
use Rattle.job_core.proofs.Turnings.{member_is, room_to_turn, turned_is}
use Rattle.job_core.proofs.job.Core.run.Goals as goal

pub turn-requires-clause-ops : goal.turn-requires-clause-ops
turn-requires-clause-ops g c =
    let h = c.requires.stands.3 in
    let within = subst (IsWithin g.P.Process.serial c.args.self.now.network.line c.args.self.now.events) (sym (c.index_mut-member.ensures.value ∙ ap (λ z. get_or c.args.self.now.members.items z c.index_mut-member.result.now) c.from.ensures)) (c.requires.stands.8 c.args.rank c.index_mut-member.result.now (omega (arith, c.requires.inside, h.ranks))) in
    omega (arith, within.ops, c.requires.few)

pub turn-requires-clause-serial : goal.turn-requires-clause-serial
turn-requires-clause-serial g c =
    let h = c.requires.stands.3 in
    let within = subst (IsWithin g.P.Process.serial c.args.self.now.network.line c.args.self.now.events) (sym (c.index_mut-member.ensures.value ∙ ap (λ z. get_or c.args.self.now.members.items z c.index_mut-member.result.now) c.from.ensures)) (c.requires.stands.8 c.args.rank c.index_mut-member.result.now (omega (arith, c.requires.inside, h.ranks))) in
    omega (arith, within.serials, c.requires.few)

pub turn-requires-clause-end : goal.turn-requires-clause-end
turn-requires-clause-end g c =
    let h = c.requires.stands.3 in
    (member_is g.P.Process.ended g.P.Process.bytes g.P.Process.among c.requires.stands.0 c.args.self.now.members.items c.requires.stands.2.one c.from.result c.args.rank c.index_mut-member.result.now c.from.ensures c.index_mut-member.ensures.value (omega (arith, c.requires.inside, h.ranks)) h.members).end

pub turn-requires-clause-bytes : goal.turn-requires-clause-bytes
turn-requires-clause-bytes g c =
    let h = c.requires.stands.3 in
    (member_is g.P.Process.ended g.P.Process.bytes g.P.Process.among c.requires.stands.0 c.args.self.now.members.items c.requires.stands.2.one c.from.result c.args.rank c.index_mut-member.result.now c.from.ensures c.index_mut-member.ensures.value (omega (arith, c.requires.inside, h.ranks)) h.members).out

pub follow-requires-clause-stands : goal.follow-requires-clause-stands
follow-requires-clause-stands g c =
    let n = c.requires.stands.0 in
    let m = c.requires.stands.2 in
    let h = c.requires.stands.3 in
    let b : c.args.rank < n = omega (arith, c.requires.inside, h.ranks) in
    let P : Stepping g.row.P.Denot = stepping_of c.requires.stands.6 g.P.Process.turned g.P.Process.answered g.P.Process.again in
    let was = member_is g.P.Process.ended g.P.Process.bytes g.P.Process.among n c.args.self.now.members.items m.one c.from.result c.args.rank c.index_mut-member.result.now c.from.ensures c.index_mut-member.ensures.value b h.members in
    let made = c.in_ok-did.ensures.made n c.requires.stands.6 (m.one c.args.rank) was in (
      n,
      m.protocol,
      logs_of m,
      record { ranks = h.ranks; stands = h.holds.network },
      (room_to_turn n c.args.self.now.events c.args.rank m.protocol (logs_of m) c.requires.few b c.requires.stands.5 (λ asked. ((regular_pausing P n m c.requires.stands.7).empty c.args.rank b asked).0), made.goes),
    )

pub tell_back-requires : goal.tell_back-requires
tell_back-requires g c =
    let n = c.requires.stands.0 in
    let m = c.requires.stands.2 in
    let h = c.requires.stands.3 in
    let b : c.args.rank < n = omega (arith, c.requires.inside, h.ranks) in
    let P : Stepping g.row.P.Denot = stepping_of c.requires.stands.6 g.P.Process.turned g.P.Process.answered g.P.Process.again in
    let v = m.one c.args.rank in
    let was = member_is g.P.Process.ended g.P.Process.bytes g.P.Process.among n c.args.self.now.members.items m.one c.from.result c.args.rank c.index_mut-member.result.now c.from.ensures c.index_mut-member.ensures.value b h.members in
    let made = c.in_ok-did.ensures.made n c.requires.stands.6 v was in
    let followed = c.in_ok-effects.ensures n c.index_mut-member.result.now.ops m.protocol (logs_of m) v (step_turn P v.rank) made (record { ranks = h.ranks; stands = h.holds.network }) b (λ asked. ((regular_pausing P n m c.requires.stands.7).empty c.args.rank b asked).0) in
    (n, _, logs_of m, followed.net, b)

pub returns-clause-turned : goal.returns-clause-turned
returns-clause-turned g c begin n first m regular h =
    let b : c.args.rank < n = omega (arith, c.requires.inside, h.ranks) in
    let P : Stepping g.row.P.Denot = stepping_of begin g.P.Process.turned g.P.Process.answered g.P.Process.again in
    let v = m.one c.args.rank in
    let t = step_turn P v.rank in
    let was = member_is g.P.Process.ended g.P.Process.bytes g.P.Process.among n c.args.self.now.members.items m.one c.from.result c.args.rank c.index_mut-member.result.now c.from.ensures c.index_mut-member.ensures.value b h.members in
    let made = c.in_ok-did.ensures.made n begin v was in
    let followed = c.in_ok-effects.ensures n c.index_mut-member.result.now.ops m.protocol (logs_of m) v t made (record { ranks = h.ranks; stands = h.holds.network }) b (λ asked. (regular.empty c.args.rank b asked).0) in
    let told = c.in_ok-tell_back.ensures n (protocol_after n m.protocol c.args.rank t.did) (logs_of m) followed.net b in
    turned_is g.P.Process.ended g.P.Process.bytes g.P.Process.among g.P.Process.serial g.P.Process.saved n c.args.rank m t c.args.self.now (record c.args.self.now { members = with_item c.args.self.now.members c.from.result c.turn.new.self; network = c.tell_back.new.network }) c.index_mut-member.result.now c.turn.new.self c.in_ok-did.did c.in_ok-effects.effects c.from.result
    c.from.ensures c.index_mut-member.ensures.value (subst (λ z. c.args.rank < z) (sym h.members.size) b) refl refl made c.in_ok-did.ensures.serial
    (told_back n c.tell_back.new.network (protocol_after n m.protocol c.args.rank t.did) (logs_of m) c.args.rank c.is_back-was_back.result c.is_back-is_back.result (is_back v) (is_back (one_turned v t)) (back_is (running_of c.index_mut-member.result.now) v c.is_back-was_back.result c.is_back-was_back.ensures was.running) (back_is (running_of c.turn.new.self) (one_turned v t) c.is_back-is_back.result c.is_back-is_back.ensures made.member.running) told)
    followed.written
