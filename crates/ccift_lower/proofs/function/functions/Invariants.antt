use Rattle.std.proofs.Common.{◌≡◌, map, take}
use Rattle.ccift_lower.specs.Lowered.{lowered_function}
use Rattle.ccift_lower.proofs.function.functions.Given as goal

abbrev pub invariant-loop-f : goal.invariant-loop-f
invariant-loop-f l = l.flat ≡ map lowered_function (take l.f-index l.functions)
