use Rattle.std.proofs.Common.{◌≡◌, map, take}
use Rattle.rank_machine.specs.Blocks.{blocks_of}
use Rattle.rank_machine.specs.Saving.{block_of}
use Rattle.rank_machine.proofs.finish.described.Given as goal

abbrev pub invariant-loop-v : goal.invariant-loop-v
invariant-loop-v l = blocks_of l.stack ≡ map block_of (take l.v-index l.variables)
