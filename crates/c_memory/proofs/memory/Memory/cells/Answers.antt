use Rattle.c_memory.specs.Seen.{serial_of}
use Rattle.c_memory.proofs.Finds.{rising_wide}
use Rattle.c_memory.proofs.memory.Memory.cells.Goals as goal

pub find-requires : goal.find-requires
find-requires c = rw c.deref.ensures.value (rising_wide serial_of _ _ c.self.invariant.variables c.self.invariant.next)

pub find-requires-in-None : goal.find-requires-in-None
find-requires-in-None c = rw c.deref-in-None.ensures.value (rising_wide serial_of _ _ c.self.invariant.heap c.self.invariant.next)
