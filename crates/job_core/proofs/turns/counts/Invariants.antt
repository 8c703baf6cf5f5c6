use Rattle.std.proofs.Common.{◌≡◌, take}
use Rattle.job_core.proofs.turns.counts.Given as goal

abbrev pub invariant-loop-count : goal.invariant-loop-count
invariant-loop-count l = l.counts ≡ take l.count-index l.list
