use Rattle.rank_machine.proofs.Memories.{tied_put}
use Rattle.rank_machine.proofs.memory.PlacedMemoryObjects.put.Goals as goal

pub invariant_of-self : goal.invariant_of-self
invariant_of-self c = rw c.put.ensures.put (tied_put _ _ _ _ c.self.invariant)
