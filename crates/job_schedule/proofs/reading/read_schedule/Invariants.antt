use Rattle.std.proofs.Common.{◌≡◌, ◌*◌, ◌≤◌, ◌^◌, ◌++◌, drop}
use Rattle.job_schedule.specs.Events.{total_of}
use Rattle.job_schedule.specs.Reading.{entries_in, first_bad, pieces_from, pieces_of}
use Rattle.job_schedule.proofs.reading.read_schedule.Given as goal

abbrev pub invariant-loop-at : goal.invariant-loop-at
invariant-loop-at l = record {
  entries : entries_in (pieces_of l.text) ≡ l.entries.items ++ entries_in (pieces_from l.is_fresh l.at (drop l.at l.text));
  bad : first_bad (pieces_of l.text) ≡ first_bad (pieces_from l.is_fresh l.at (drop l.at l.text));
  total : l.count ≡ total_of l.entries.items;
  small : l.count ≤ l.at * 2 ^ 39;
}
