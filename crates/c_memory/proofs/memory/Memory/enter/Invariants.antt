use Rattle.std.proofs.Common.{◌≡◌, take}
use Rattle.c_memory.specs.Memory.{add_variables}
use Rattle.c_memory.proofs.memory.Memory.enter.Given as goal

abbrev pub invariant-loop-n : goal.invariant-loop-n
invariant-loop-n l = l.self ≡ add_variables l.initial.self (take l.n-index l.lengths)
