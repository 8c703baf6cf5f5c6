use Rattle.rank_machine.proofs.Memories.{tied_free}
use Rattle.rank_machine.proofs.memory.PlacedMemory.free.Goals as goal

pub invariant_of-self-2 : goal.invariant_of-self-2
invariant_of-self-2 c = rw c.remove.ensures (tied_free _ _ _ c.args.pointer c.self.invariant c.in_ok-free.ensures.done)
