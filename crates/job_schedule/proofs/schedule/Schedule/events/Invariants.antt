use Rattle.std.proofs.Common.{◌≡◌, take}
use Rattle.job_schedule.specs.Events.{events_of}
use Rattle.job_schedule.proofs.schedule.Schedule.events.Given as goal

abbrev pub invariant-loop-entry : goal.invariant-loop-entry
invariant-loop-entry l = l.events.items ≡ events_of l.n (take l.entry-index l.entries)
