use Rattle.std.proofs.Common.{◌≡◌, ◌++◌, drop}
use Rattle.ccift_pass.specs.Passed as spec
use Rattle.ccift_pass.proofs.function.put_each.Given as goal

abbrev pub invariant-loop-i : goal.invariant-loop-i
invariant-loop-i l = l.made ++ spec.all_passed (spec.target_in l.targets) l.site (drop l.i-index l.code) ≡ l.fn.made ++ spec.all_passed (spec.target_in l.targets) l.first l.code
