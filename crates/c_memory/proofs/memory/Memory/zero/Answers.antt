use Rattle.c_memory.specs.Seen.{serial_of}
use Rattle.c_memory.proofs.Finds.{rising_wide}
use Rattle.c_memory.proofs.memory.Memory.zero.Goals as goal

pub zero-requires : goal.zero-requires
zero-requires c = rising_wide serial_of _ _ c.self.invariant.variables c.self.invariant.next
