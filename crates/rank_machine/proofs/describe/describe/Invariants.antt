use Rattle.std.proofs.Common.{◌≡◌, ◌++◌, ◌+◌, ◌-◌}
use Rattle.flat_code.specs.Placed.{stacked}
use Rattle.rank_machine.specs.Blocks.{blocks_of}
use Rattle.rank_machine.specs.Layout.{described_by, sizes_from}
use Rattle.rank_machine.proofs.describe.describe.Given as goal

abbrev pub invariant-loop-k : goal.invariant-loop-k
invariant-loop-k l = blocks_of l.described ++ stacked (l.variables.first + l.k) l.place (sizes_from l.memory.memory (l.variables.first + l.k) (l.variables.count - l.k)) ≡ blocks_of l.fn.described ++ described_by l.memory.memory l.variables
