use Rattle.std.proofs.Common.{map}
use Rattle.c_memory.specs.Memory.{number}
use Rattle.rank_machine.proofs.Memories.{tied_put_all}
use Rattle.rank_machine.proofs.memory.PlacedMemoryObjects.put_numbers.Goals as goal

pub invariant_of-self : goal.invariant_of-self
invariant_of-self c = rw c.put_numbers.ensures.put (tied_put_all _ _ c.args.spot (map number c.args.numbers.now) c.self.invariant)
