use Rattle.std.proofs.Common.{◌≡◌, ◌+◌, ◌≤◌, take}
use Rattle.c_memory.specs.Memory.{total}
use Rattle.c_memory.proofs.memory.is_over.Given as goal

abbrev pub invariant-loop-n : goal.invariant-loop-n
invariant-loop-n l = (l.sum ≡ l.from + total (take l.n-index l.lengths)) × (l.sum ≤ 8193)
