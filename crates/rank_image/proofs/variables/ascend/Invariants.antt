use Rattle.std.proofs.Common.{◌↔◌, ◌^◌, ◌<◌, suc, drop}
use Rattle.c_memory.specs.Order.{IsRising}
use Rattle.rank_machine.specs.WellFormed.{serial_of}
use Rattle.rank_image.proofs.variables.ascend.Given as goal

abbrev pub invariant-loop-v : goal.invariant-loop-v
invariant-loop-v l = record {
  small : l.last < 2 ^ 64;
  same : IsRising serial_of (suc l.last) (drop l.v-index l.variables) (2 ^ 64) ↔ IsRising serial_of 1 l.variables (2 ^ 64);
}
