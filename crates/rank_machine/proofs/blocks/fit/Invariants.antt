use Rattle.std.proofs.Common.{◌≡◌, ◌<◌, ◌^◌, drop}
use Rattle.flat_code.specs.Placed.{first_fit}
use Rattle.rank_machine.specs.Blocks.{blocks_of}
use Rattle.rank_machine.proofs.blocks.fit.Given as goal

abbrev pub invariant-loop-b : goal.invariant-loop-b
invariant-loop-b l = record {
  low : l.from < 2 ^ 33;
  same : first_fit (blocks_of (drop l.b-index l.blocks)) l.from l.n ≡ first_fit (blocks_of l.blocks) 0 l.n;
}
