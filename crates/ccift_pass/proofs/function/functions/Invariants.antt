use Rattle.std.proofs.Common.{◌≡◌, ◌++◌, drop}
use Rattle.ccift_pass.specs.Passed as spec
use Rattle.ccift_pass.proofs.function.functions.Given as goal

abbrev pub invariant-loop-f : goal.invariant-loop-f
invariant-loop-f l = l.made ++ spec.passed_from l.site (drop l.f-index l.functions) ≡ spec.passed_from 1 l.functions
