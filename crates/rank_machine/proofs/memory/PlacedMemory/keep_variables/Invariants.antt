use Rattle.std.proofs.Common.{◌≡◌, ◌++◌, drop, map}
use Rattle.rank_machine.specs.Saving.{object_of}
use Rattle.rank_machine.proofs.memory.PlacedMemory.keep_variables.Given as goal

abbrev pub invariant-loop-v : goal.invariant-loop-v
invariant-loop-v l = record {
  memory : l.self.memory ≡ record l.fn.self.memory { variables = l.self.memory.variables };
  variables : l.self.memory.variables ++ map object_of (drop l.v-index l.variables) ≡ l.fn.self.memory.variables ++ map object_of l.variables;
  blocks : l.self.blocks ≡ l.fn.self.blocks;
}
