use Rattle.std.proofs.Common.{◌≡◌, ◌++◌, replicate, flat_map}
use Rattle.job_schedule.specs.Events.{word_events}
use Rattle.job_schedule.proofs.schedule.Entry.add_events.Given as goal

abbrev pub invariant-loop : goal.invariant-loop
invariant-loop l = l.events.items ≡ l.initial.events.items ++ flat_map (word_events l.n) (replicate l.counter l.self.what)
