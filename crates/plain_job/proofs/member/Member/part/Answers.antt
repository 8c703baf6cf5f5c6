use Rattle.std.proofs.Common.{◌≡◌, suc, ◌-◌, true, false, arith}
use Rattle.plain_job.specs.Members.{rank_of}
use Rattle.plain_job.specs.Turn.{begins_next}
use Rattle.plain_job.proofs.LastSteps.{Stepped, begins_member, part_goes, part_begins, part_pauses}
use Rattle.plain_job.proofs.Rooms.{room_few, room_serials, goes_room, begins_room}
use Rattle.plain_job.proofs.member.Member.part.Goals as goal

pub step-requires-clause-few : goal.step-requires-clause-few
step-requires-clause-few c = room_few c.args.left.now c.args.self.now c.requires.room

pub step-requires-clause-serials : goal.step-requires-clause-serials
step-requires-clause-serials c = room_serials c.args.left.now c.args.self.now c.requires.runs c.requires.room

pub step-requires-2-clause-few : goal.step-requires-2-clause-few
step-requires-2-clause-few c = room_few c.args.left.now c.args.self.now c.requires.room

pub step-requires-2-clause-serials : goal.step-requires-2-clause-serials
step-requires-2-clause-serials c = room_serials c.args.left.now c.args.self.now c.requires.runs c.requires.room

pub returns-then-not-begins-clause-turn : goal.returns-then-not-begins-clause-turn
returns-then-not-begins-clause-turn c =
    let m = c.args.self.now in
    let b : begins_next (rank_of m).standing ≡ false = begins_member m false c.requires.runs cc in
    let s : Stepped c.args.me m c.step.new.self c.args.channels.now c.step.new.channels c.in_ok-did.did = record { step = c.in_ok-did.ensures.step; progress = c.in_ok-did.ensures.progress } in
    λ ranks within. part_goes ranks c.args.me c.args.left.now m c.step.new.self c.args.channels.now c.step.new.channels c.in_ok-did.did c.ends.result within b s c.ends.ensures

pub returns-then-not-begins-clause-room : goal.returns-then-not-begins-clause-room
returns-then-not-begins-clause-room c =
    let m = c.args.self.now in
    let b : begins_next (rank_of m).standing ≡ false = begins_member m false c.requires.runs cc in
    let s : Stepped c.args.me m c.step.new.self c.args.channels.now c.step.new.channels c.in_ok-did.did = record { step = c.in_ok-did.ensures.step; progress = c.in_ok-did.ensures.progress } in
    λ on. goes_room c.args.left.now c.args.me m c.step.new.self c.args.channels.now c.step.new.channels c.in_ok-did.did c.ends.result c.requires.regular b s c.ends.ensures c.requires.room on

pub returns-then-left-eq0-clause-turn : goal.returns-then-left-eq0-clause-turn
returns-then-left-eq0-clause-turn c =
    let m = c.args.self.now in
    let b : begins_next (rank_of m).standing ≡ true = begins_member m true c.requires.runs cc in
    λ ranks within. part_pauses ranks c.args.me c.args.left.now m c.args.channels.now within (omega arith) b

pub returns-clause-turn : goal.returns-clause-turn
returns-clause-turn c =
    let m = c.args.self.now in
    let b : begins_next (rank_of m).standing ≡ true = begins_member m true c.requires.runs cc in
    let f : c.args.left.now ≡ suc (c.args.left.now - 1) = omega arith in
    let s : Stepped c.args.me m c.step-2.new.self c.args.channels.now c.step-2.new.channels c.in_ok-did-2.did = record { step = c.in_ok-did-2.ensures.step; progress = c.in_ok-did-2.ensures.progress } in
    λ ranks within. part_begins ranks c.args.me c.args.left.now (c.args.left.now - 1) m c.step-2.new.self c.args.channels.now c.step-2.new.channels c.in_ok-did-2.did c.ends-2.result within f b s c.ends-2.ensures

pub returns-clause-room : goal.returns-clause-room
returns-clause-room c =
    let m = c.args.self.now in
    let b : begins_next (rank_of m).standing ≡ true = begins_member m true c.requires.runs cc in
    let f : c.args.left.now ≡ suc (c.args.left.now - 1) = omega arith in
    let s : Stepped c.args.me m c.step-2.new.self c.args.channels.now c.step-2.new.channels c.in_ok-did-2.did = record { step = c.in_ok-did-2.ensures.step; progress = c.in_ok-did-2.ensures.progress } in
    λ on. begins_room c.args.left.now (c.args.left.now - 1) c.args.me m c.step-2.new.self c.args.channels.now c.step-2.new.channels c.in_ok-did-2.did c.requires.regular f b s c.requires.room
