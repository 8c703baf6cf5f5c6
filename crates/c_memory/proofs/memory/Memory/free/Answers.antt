use Rattle.c_memory.specs.Seen.{serial_of}
use Rattle.c_memory.proofs.Finds.{rising_wide}
use Rattle.c_memory.proofs.memory.Memory.free.Goals as goal

pub find-requires : goal.find-requires
find-requires c = rw c.deref.ensures.value (rising_wide serial_of _ _ c.self.invariant.variables c.self.invariant.next)

pub find-requires-2 : goal.find-requires-2
find-requires-2 c = rw c.deref-2.ensures.value (rising_wide serial_of _ _ c.self.invariant.heap c.self.invariant.next)

pub take_away-requires : goal.take_away-requires
take_away-requires c = rising_wide serial_of _ _ c.self.invariant.heap c.self.invariant.next
