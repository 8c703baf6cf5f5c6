use Rattle.std.proofs.Common.{◌≡◌, ◌++◌, length}
use Rattle.job_core.proofs.sweep.add.Given as goal

abbrev pub invariant-loop-effects : goal.invariant-loop-effects
invariant-loop-effects l = l.effects ++ l.more ≡ l.fn.effects ++ l.fn.more

abbrev pub decreases-loop-effects : goal.decreases-loop-effects
decreases-loop-effects l = length l.more
