use Rattle.std.proofs.Common.{◌≡◌, drop}
use Rattle.std.specs.Prelude.{fold}
use Rattle.c_check.specs.Program.{first, sooner}
use Rattle.c_check.proofs.fault.first.Given as goal

abbrev pub invariant-loop-breach : goal.invariant-loop-breach
invariant-loop-breach l = fold sooner l.found (drop l.breach-index l.breaches) ≡ first l.breaches
