use Rattle.rank_machine.proofs.Memories.{tied_result}
use Rattle.rank_machine.proofs.memory.PlacedMemory.enter.Goals as goal

pub invariant_of-self-in-Ok : goal.invariant_of-self-in-Ok
invariant_of-self-in-Ok c = tied_result _ _ _ _ _ c.self.invariant c.in-Ok.ensures.done c.in-Ok.ensures.same
