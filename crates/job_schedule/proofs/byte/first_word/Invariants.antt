use Rattle.std.proofs.Common.{◌≡◌, ◌+◌, drop}
use Rattle.std.specs.List.{prefix_len}
use Rattle.job_schedule.specs.Schedule.{in_word}
use Rattle.job_schedule.proofs.byte.first_word.Given as goal

abbrev pub invariant-loop-at : goal.invariant-loop-at
invariant-loop-at l = prefix_len in_word l.text ≡ l.at + prefix_len in_word (drop l.at l.text)
