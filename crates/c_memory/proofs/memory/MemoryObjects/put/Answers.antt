use Rattle.c_memory.specs.Seen.{serial_of}
use Rattle.c_memory.proofs.Finds.{rising_wide}
use Rattle.c_memory.proofs.memory.MemoryObjects.put.Goals as goal

pub find-requires : goal.find-requires
find-requires c = rw c.deref.ensures.value (rising_wide serial_of _ _ c.self.invariant.variables c.self.invariant.next)

pub put-requires : goal.put-requires
put-requires c = rising_wide serial_of _ _ c.self.invariant.variables c.self.invariant.next

pub put-requires-in-None : goal.put-requires-in-None
put-requires-in-None c = rising_wide serial_of _ _ c.self.invariant.heap c.self.invariant.next
