use Rattle.std.proofs.Common.{◌≡◌, take}
use Rattle.core_tests.proofs.script.copies.Given as goal

abbrev pub invariant-loop-op : goal.invariant-loop-op
invariant-loop-op l = l.copies ≡ take l.op-index l.script
