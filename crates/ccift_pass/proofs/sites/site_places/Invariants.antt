use Rattle.std.proofs.Common.{◌≡◌, ◌++◌, drop}
use Rattle.ccift_pass.specs.Passed as spec
use Rattle.ccift_pass.proofs.sites.site_places.Given as goal

abbrev pub invariant-loop-i : goal.invariant-loop-i
invariant-loop-i l = l.found ++ spec.site_places l.place l.number (drop l.i-index l.code) ≡ spec.site_places 1 l.first l.code
