use Rattle.std.proofs.Common.{◌≡◌, ◌++◌, drop}
use Rattle.ccift_pass.specs.Passed as spec
use Rattle.ccift_pass.proofs.targets.table.Given as goal

abbrev pub invariant-loop-i : goal.invariant-loop-i
invariant-loop-i l = l.found.items ++ spec.later_targets l.place (drop l.i-index l.code) ≡ spec.table l.code
