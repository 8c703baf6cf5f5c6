use Rattle.std.proofs.Common.{◌∙◌, List, ℕ, flat_map, sym, subst}
use Rattle.job_schedule.specs.Events.{events_of}
use Rattle.plain_job.specs.Plain.{job_of}
use Rattle.plain_job.proofs.Runs.{turns_reach}
use Rattle.c3_top.specs.Input.{turn_in}
use Rattle.c3_top.specs.Text.{IsProgram}
use Rattle.c3_top.proofs.top.ran.Goals as goal

pub returns-then-all_ended : goal.returns-then-all_ended
returns-then-all_ended c text bytes has is =
    let job = job_of c.in_ok-job.job in
    let turns : List ℕ = flat_map turn_in (events_of c.args.ranks c.args.schedule.now) in (
      job,
      record {
        short = has.short;
        program = c.args.program;
        is = subst (λ t. IsProgram t c.args.program) (sym has.text_is) is;
        entries = c.args.schedule.now;
        read = has.read;
        reached = turns_reach c.args.program c.args.ranks turns job c.in_ok-job.ensures.turns;
        turns = c.in_ok-job.ensures.turns;
      },
      sym c.all_ended.ensures ∙ c.if-all_ended.true,
      c.in_ok-finished.ensures,
    )

pub returns : goal.returns
returns c text bytes has is =
    let job = job_of c.in_ok-job.job in
    let turns : List ℕ = flat_map turn_in (events_of c.args.ranks c.args.schedule.now) in (
      job,
      record {
        short = has.short;
        program = c.args.program;
        is = subst (λ t. IsProgram t c.args.program) (sym has.text_is) is;
        entries = c.args.schedule.now;
        read = has.read;
        reached = turns_reach c.args.program c.args.ranks turns job c.in_ok-job.ensures.turns;
        turns = c.in_ok-job.ensures.turns;
      },
      sym c.all_ended.ensures ∙ c.if-all_ended.false,
      c.in_ok-unfinished.ensures,
    )
