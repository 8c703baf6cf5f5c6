-- What holds of a memory's fields.
use Rattle.std.specs.Prelude.{◌≡◌, ◌+◌, ◌≤◌, ◌<◌, ◌^◌}
use Rattle.c_memory.specs.Memory.{cells_in}
use Rattle.c_memory.specs.Order.{IsRising}
use Rattle.c_memory.specs.Seen.{objects_of, serial_of}
use Rattle.c_memory.specs.declared.memory.Memory.TheInside.{Inside}

pub record IsKept (m : Inside) : Type 0 where
  pub variables : IsRising serial_of 1 m.variables.items m.next
  pub heap : IsRising serial_of 1 m.heap.items m.next
  pub next : m.next < 2 ^ 64
  pub taken : m.taken ≡ cells_in (objects_of m.variables.items)
  pub stack : m.calls + m.taken ≤ 8192
  pub live : m.live ≡ cells_in (objects_of m.heap.items)
  pub most : m.live ≤ 65536
  pub asked : m.live ≤ m.asked
