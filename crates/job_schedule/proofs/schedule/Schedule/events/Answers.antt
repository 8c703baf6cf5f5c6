use Rattle.std.proofs.Common.{◌≡◌, ◌∙◌, arith, ap}
use Rattle.std.proofs.lemmas.List.{take_all}
use Rattle.job_schedule.specs.Events.{events_of}
use Rattle.job_schedule.proofs.Counts.{few}
use Rattle.job_schedule.proofs.schedule.Schedule.events.Goals as goal

pub returns-clause-few : goal.returns-clause-few
returns-clause-few c h =
    let entries = c.self.inside.entries.items in
    let read : c.deref-entries.result.now ≡ entries = c.deref-entries.ensures.value in
    let all : c.loop-entry.events.items ≡ events_of c.args.n entries = c.loop-entry.invariant ∙ ap (events_of c.args.n) (take_all c.loop-entry.entry-index c.deref-entries.result.now c.loop-entry-test.false ∙ read) in
    rw all (omega (arith, few c.args.n entries h, c.self.invariant))
