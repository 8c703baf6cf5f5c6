use Rattle.std.proofs.Common.{◌≡◌, ◌+◌, drop}
use Rattle.ccift_pass.specs.Passed as spec
use Rattle.ccift_pass.proofs.function.sites_after.Given as goal

abbrev pub invariant-loop-i : goal.invariant-loop-i
invariant-loop-i l = l.site + spec.sites_in (drop l.i-index l.code) ≡ l.first + spec.sites_in l.code
