use Rattle.std.proofs.Common.{◌≡◌, true, false, is_some, sym, ◌∙◌}
use Rattle.c_meaning.specs.Rank.{state_of}
use Rattle.plain_job.specs.Turn.{turn_limit}
use Rattle.plain_job.proofs.LastSteps.{Stepped, waiting_turn, waiting_effect, going_effect}
use Rattle.plain_job.proofs.Rooms.{room_few, room_serials}
use Rattle.plain_job.proofs.member.Member.turn.Goals as goal

pub step-requires-clause-few : goal.step-requires-clause-few
step-requires-clause-few c = room_few turn_limit c.args.self.now c.requires.room

pub step-requires-clause-serials : goal.step-requires-clause-serials
step-requires-clause-serials c = room_serials turn_limit c.args.self.now c.requires.runs c.requires.room

pub returns-then-waits-clause-turn : goal.returns-then-waits-clause-turn
returns-then-waits-clause-turn c =
    let m = c.args.self.now in
    let w : is_some (state_of m.rank).asked ≡ true = sym c.waits.ensures ∙ c.if-waits.true in
    let s : Stepped c.args.me m c.step.new.self c.args.channels.now c.step.new.channels c.in_ok-did.did = record { step = c.in_ok-did.ensures.step; progress = c.in_ok-did.ensures.progress } in
    λ ranks within. waiting_turn ranks c.args.me turn_limit m c.step.new.self c.args.channels.now c.step.new.channels c.in_ok-did.did within c.requires.runs w s

pub returns-then-waits-clause-effect : goal.returns-then-waits-clause-effect
returns-then-waits-clause-effect c =
    let m = c.args.self.now in
    let w : is_some (state_of m.rank).asked ≡ true = sym c.waits.ensures ∙ c.if-waits.true in
    let s : Stepped c.args.me m c.step.new.self c.args.channels.now c.step.new.channels c.in_ok-did.did = record { step = c.in_ok-did.ensures.step; progress = c.in_ok-did.ensures.progress } in
    λ ranks. c.had_step.ensures ∙ waiting_effect ranks c.args.me m c.step.new.self c.args.channels.now c.step.new.channels c.in_ok-did.did c.requires.runs w s

pub returns-clause-effect : goal.returns-clause-effect
returns-clause-effect c =
    let m = c.args.self.now in
    let w : is_some (state_of m.rank).asked ≡ false = sym c.waits.ensures ∙ c.if-waits.false in
    λ ranks. going_effect ranks c.args.me m c.args.channels.now c.requires.runs w
