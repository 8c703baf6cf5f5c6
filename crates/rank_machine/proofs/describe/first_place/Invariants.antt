use Rattle.std.proofs.Common.{◌≡◌, ◌+◌, ◌-◌, ◌≤◌}
use Rattle.c_memory.specs.Memory.{total, used}
use Rattle.rank_machine.specs.Layout.{sizes_from, sizes_in}
use Rattle.rank_machine.proofs.describe.first_place.Given as goal

abbrev pub invariant-loop-k : goal.invariant-loop-k
invariant-loop-k l = record {
  few : l.place ≤ 8192;
  rest : l.place - total (sizes_from l.memory.memory (l.variables.first + l.k) (l.variables.count - l.k)) ≡ used l.memory.memory - total (sizes_in l.memory.memory l.variables);
}
