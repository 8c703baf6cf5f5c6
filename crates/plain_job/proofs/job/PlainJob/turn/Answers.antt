use Rattle.std.proofs.Common.{slice_set, ◌+◌, sym, ◌∙◌, arith}
use Rattle.std.proofs.lemmas.List.{length-set}
use Rattle.plain_job.specs.Job.{Job}
use Rattle.plain_job.proofs.Idle.{turn_idle}
use Rattle.plain_job.proofs.Ranks.{IsAt, job_of_members, written_back, run_at, run_with, turn_at, effect_at, ended_turn, ended_effect, absent_turn, absent_effect}
use Rattle.plain_job.proofs.Rooms.{others_after, regular_member, turn_room, turn_after, written_after}
use Rattle.plain_job.proofs.job.PlainJob.turn.Goals as goal

pub invariant_of-self-clause-within : goal.invariant_of-self-clause-within
invariant_of-self-clause-within c =
    let job = c.args.self.now in
    λ few. others_after job.turns job.members.items (job.within (omega (arith, few)))

pub returns-then-len-at-clause-turn : goal.returns-then-len-at-clause-turn
returns-then-len-at-clause-turn c =
    let job = c.args.self.now in
    absent_turn job.program.value.functions job.members.items c.args.rank job.channels (omega (arith, c.len.ensures, c.from-at.ensures, c.if-len-at.true))

pub returns-then-len-at-clause-effect : goal.returns-then-len-at-clause-effect
returns-then-len-at-clause-effect c =
    let job = c.args.self.now in
    absent_effect job.members.items c.args.rank job.channels (omega (arith, c.len.ensures, c.from-at.ensures, c.if-len-at.true))

pub invariant_of-self-then-is_some-clause-same : goal.invariant_of-self-then-is_some-clause-same
invariant_of-self-then-is_some-clause-same c =
    let job = c.args.self.now in
    let m = c.index_mut-member.result.now in
    let at : IsAt job.members.items c.from-at.result m = (omega (arith, c.len.ensures, c.from-at.ensures, c.if-len-at.false), c.index_mut-member.ensures.value) in
    run_with job.program.value.functions job.members.items c.from-at.result m job.same (run_at job.program.value.functions job.members.items c.from-at.result m job.same at)

pub invariant_of-self-then-is_some-clause-numbers : goal.invariant_of-self-then-is_some-clause-numbers
invariant_of-self-then-is_some-clause-numbers c =
    let job = c.args.self.now in
    job.numbers ∙ sym (length-set job.members.items c.from-at.result c.index_mut-member.result.now)

pub returns-then-is_some-clause-turn : goal.returns-then-is_some-clause-turn
returns-then-is_some-clause-turn c =
    let job = c.args.self.now in
    let m = c.index_mut-member.result.now in
    let at : IsAt job.members.items c.args.rank m = (omega (arith, c.len.ensures, c.from-at.ensures, c.if-len-at.false), rw c.from-at.ensures at c.index_mut-member.ensures.value) in
    rw c.from-at.ensures (ended_turn job.program.value.functions job.members.items c.args.rank m job.channels at (cc))

pub returns-then-is_some-clause-effect : goal.returns-then-is_some-clause-effect
returns-then-is_some-clause-effect c =
    let job = c.args.self.now in
    let m = c.index_mut-member.result.now in
    let at : IsAt job.members.items c.args.rank m = (omega (arith, c.len.ensures, c.from-at.ensures, c.if-len-at.false), rw c.from-at.ensures at c.index_mut-member.ensures.value) in
    ended_effect job.members.items c.args.rank m job.channels at (cc)

pub returns-then-is_some-clause-idle : goal.returns-then-is_some-clause-idle
returns-then-is_some-clause-idle c =
    let job = c.args.self.now in
    let m = c.index_mut-member.result.now in
    let at : IsAt job.members.items c.args.rank m = (omega (arith, c.len.ensures, c.from-at.ensures, c.if-len-at.false), rw c.from-at.ensures at c.index_mut-member.ensures.value) in
    λ no. rw c.from-at.ensures (written_back job.members.items c.args.rank m job.channels at)

pub invariant_of-self-then-is_some-clause-within : goal.invariant_of-self-then-is_some-clause-within
invariant_of-self-then-is_some-clause-within c =
    let job = c.args.self.now in
    let m = c.index_mut-member.result.now in
    let at : IsAt job.members.items c.from-at.result m = (omega (arith, c.len.ensures, c.from-at.ensures, c.if-len-at.false), c.index_mut-member.ensures.value) in
    λ few. written_after (job.turns + 1) job.members.items c.from-at.result m at (others_after job.turns job.members.items (job.within (omega (arith, few))))

pub turn-requires-clause-regular : goal.turn-requires-clause-regular
turn-requires-clause-regular c =
    let job = c.args.self.now in
    let m = c.index_mut-member.result.now in
    let at : IsAt job.members.items c.from-at.result m = (omega (arith, c.len.ensures, c.from-at.ensures, c.if-len-at.false), c.index_mut-member.ensures.value) in
    regular_member job.program.value.functions m (run_at job.program.value.functions job.members.items c.from-at.result m job.same at) job.regular

pub turn-requires-clause-room : goal.turn-requires-clause-room
turn-requires-clause-room c =
    let job = c.args.self.now in
    let m = c.index_mut-member.result.now in
    let at : IsAt job.members.items c.from-at.result m = (omega (arith, c.len.ensures, c.from-at.ensures, c.if-len-at.false), c.index_mut-member.ensures.value) in
    turn_room job.turns job.members.items c.from-at.result m c.requires (job.within c.requires) at

pub invariant_of-self-2-clause-same : goal.invariant_of-self-2-clause-same
invariant_of-self-2-clause-same c =
    let job = c.args.self.now in
    let m = c.index_mut-member.result.now in
    let at : IsAt job.members.items c.from-at.result m = (omega (arith, c.len.ensures, c.from-at.ensures, c.if-len-at.false), c.index_mut-member.ensures.value) in
    run_with job.program.value.functions job.members.items c.from-at.result c.turn.new.self job.same (c.turn.ensures.functions ∙ run_at job.program.value.functions job.members.items c.from-at.result m job.same at)

pub invariant_of-self-2-clause-numbers : goal.invariant_of-self-2-clause-numbers
invariant_of-self-2-clause-numbers c =
    let job = c.args.self.now in
    c.turn.ensures.ranks ∙ job.numbers ∙ sym (length-set job.members.items c.from-at.result c.turn.new.self)

pub invariant_of-self-in-Break-1 : goal.invariant_of-self-in-Break-1
invariant_of-self-in-Break-1 c =
    let job = c.args.self.now in
    let m = c.index_mut-member.result.now in
    let at : IsAt job.members.items c.from-at.result m = (omega (arith, c.len.ensures, c.from-at.ensures, c.if-len-at.false), c.index_mut-member.ensures.value) in
    record {
      regular = job.regular;
      same = run_with job.program.value.functions job.members.items c.from-at.result c.turn.new.self job.same (c.turn.ensures.functions ∙ run_at job.program.value.functions job.members.items c.from-at.result m job.same at);
      numbers = c.turn.ensures.ranks ∙ job.numbers ∙ sym (length-set job.members.items c.from-at.result c.turn.new.self);
      within = λ few. absurd (omega (arith, few));
    }

pub invariant_of-self-2-clause-within : goal.invariant_of-self-2-clause-within
invariant_of-self-2-clause-within c =
    let job = c.args.self.now in
    let m = c.index_mut-member.result.now in
    let at : IsAt job.members.items c.from-at.result m = (omega (arith, c.len.ensures, c.from-at.ensures, c.if-len-at.false), c.index_mut-member.ensures.value) in
    let regular = regular_member job.program.value.functions m (run_at job.program.value.functions job.members.items c.from-at.result m job.same at) job.regular in
    λ few. turn_after job.turns job.members.items c.from-at.result m c.turn.new.self job.channels c.turn.new.channels regular (rw c.from-at.ensures c.in_ok-did.ensures.turn) at (job.within (omega (arith, few)))

pub returns-clause-turn : goal.returns-clause-turn
returns-clause-turn c =
    let job = c.args.self.now in
    let m = c.index_mut-member.result.now in
    let functions = job.program.value.functions in
    let at : IsAt job.members.items c.args.rank m = (omega (arith, c.len.ensures, c.from-at.ensures, c.if-len-at.false), rw c.from-at.ensures at c.index_mut-member.ensures.value) in
    rw c.from-at.ensures (turn_at functions job.members.items c.args.rank m c.turn.new.self job.channels c.turn.new.channels at (run_at functions job.members.items c.args.rank m job.same at) c.in_ok-did.ensures.turn)

pub returns-clause-effect : goal.returns-clause-effect
returns-clause-effect c =
    let job = c.args.self.now in
    let m = c.index_mut-member.result.now in
    let at : IsAt job.members.items c.args.rank m = (omega (arith, c.len.ensures, c.from-at.ensures, c.if-len-at.false), rw c.from-at.ensures at c.index_mut-member.ensures.value) in
    effect_at job.members.items c.args.rank m job.channels c.in_ok-did.did at c.in_ok-did.ensures.effect

pub returns-clause-idle : goal.returns-clause-idle
returns-clause-idle c =
    let job = c.args.self.now in
    let after : Job = job_of_members (slice_set job.members.items c.from-at.result c.turn.new.self) c.turn.new.channels in
    λ no. turn_idle job.program.value.functions (job_of_members job.members.items job.channels) c.args.rank after (sym (returns-clause-effect c) ∙ no) (returns-clause-turn c)
