use Rattle.std.proofs.Common.{◌∙◌}
use Rattle.job_core.specs.declared.event.Event.TheVariants.{Turn}
use Rattle.job_schedule.proofs.Turns.{one_more}
use Rattle.job_schedule.proofs.schedule.Word.add_events.Goals as goal

pub loop-rank-preserved : goal.loop-rank-preserved
loop-rank-preserved c = c.in_ok-push-in-Round.ensures.items ∙ one_more Turn c.args.events.now.items c.loop-rank.events.items c.loop-rank.rank c.loop-rank.invariant
