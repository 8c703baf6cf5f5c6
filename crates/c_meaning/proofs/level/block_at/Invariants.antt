use Rattle.std.proofs.Common.{◌≡◌, drop}
use Rattle.c_meaning.specs.Level.{block_at}
use Rattle.c_meaning.proofs.level.block_at.Given as goal

abbrev pub invariant-loop-level : goal.invariant-loop-level
invariant-loop-level l = block_at l.block (drop l.level-index l.levels) ≡ block_at l.body l.levels
