use Rattle.std.proofs.Common.{◌≡◌, map, take}
use Rattle.rank_machine.specs.Blocks.{blocks_of}
use Rattle.rank_machine.specs.Saving.{standing_at}
use Rattle.rank_machine.proofs.save.standing.Given as goal

abbrev pub invariant-loop-b : goal.invariant-loop-b
invariant-loop-b l = l.objects ≡ map (standing_at l.memory.memory) (blocks_of (take l.b-index l.blocks))
