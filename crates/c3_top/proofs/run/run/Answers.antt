use Rattle.std.proofs.Common.{◌∙◌, ap, length, arith}
use Rattle.plain_job.specs.Job.{start_job}
use Rattle.plain_job.specs.Plain.{functions_of, job_of}
use Rattle.c3_top.proofs.Turns.{one_event_more}
use Rattle.c3_top.proofs.run.run.Goals as goal

pub loop-event-preserved : goal.loop-event-preserved
loop-event-preserved c =
    let loop = c.loop-event in
    record {
      functions = c.in_ok-happen.ensures.functions ∙ loop.invariant.functions;
      count = c.in_ok-happen.ensures.count ∙ loop.invariant.count;
      few = omega (arith, loop.invariant.few, c.in_ok-happen.ensures.few);
      turns = one_event_more c.args.program.functions (functions_of loop.job) (start_job c.args.program c.args.ranks) (job_of loop.job) (job_of c.happen.new.job) loop.event-index c.deref-event-items.result.now _ c.loop-event-test.true loop.invariant.functions loop.invariant.turns c.in_ok-happen.ensures.turns;
    }

pub happen-requires : goal.happen-requires
happen-requires c =
    let events = c.deref-event-items.ensures.value in
    omega (arith, c.loop-event.invariant.few, c.loop-event-test.true, ap length events, c.in_ok-events.ensures.few (omega (arith, c.requires.few)))
