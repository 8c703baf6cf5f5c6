use Rattle.std.proofs.Common.{◌≡◌, ◌++◌, map}
use Rattle.std.specs.List.{range_with_len}
use Rattle.job_core.specs.declared.event.Event.TheVariants.{Turn}
use Rattle.job_schedule.proofs.schedule.Word.add_events.Given as goal

abbrev pub invariant-loop-rank : goal.invariant-loop-rank
invariant-loop-rank l = l.events.items ≡ l.initial.events.items ++ map Turn (range_with_len 0 l.rank)
