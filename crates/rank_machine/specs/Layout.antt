-- Where the variables of the calls and the objects of malloc stand.
use Rattle.std.specs.Prelude.{ℕ, zero, suc, ◌+◌, ◌-◌, List, [], ◌∷◌, ◌++◌, length, take, Option, Some, unwrap_or}
use Rattle.c_memory.specs.Memory.{Memory, cells_of, total, used}
use Rattle.c_values.specs.declared.value.Variables.{Variables}
use Rattle.flat_code.specs.declared.code.Instr.{Instr}
use Rattle.flat_code.specs.declared.code.Instr.TheVariants.{Enter, Leave}
use Rattle.flat_code.specs.Machine.{Frame}
use Rattle.flat_code.specs.Placed.{Block, heap_by, stacked}

-- the variables that have descriptors, from the bottom, and the objects of malloc by ascending places
pub record Layout : Type 0 where
  pub stack : List Block
  pub heap : List Block

-- how many cells the object with a serial has, and each of so many from a serial on
abbrev pub size_at : Memory → ℕ → ℕ
size_at m serial = length (unwrap_or (cells_of m serial) [])

abbrev pub sizes_from : Memory → ℕ → ℕ → List ℕ
sizes_from m serial zero = []
sizes_from m serial (suc n) = size_at m serial ∷ sizes_from m (serial + 1) n

-- a call's variables
abbrev pub sizes_in : Memory → Variables → List ℕ
sizes_in m v = sizes_from m v.first v.count

-- the variables of the newest call stand one after another, and the last of them ends where the cells in use end
abbrev pub described_by : Memory → Variables → List Block
described_by m v = stacked v.first (used m - total (sizes_in m v)) (sizes_in m v)

-- the stack after an instruction
abbrev pub stack_by : Memory → Frame → List Block → Option Instr → List Block
stack_by m top stack (Some (Enter variables sites)) = stack ++ described_by m top.variables
stack_by m top stack (Some Leave) = take (length stack - top.variables.count) stack
stack_by m top stack other = stack

abbrev pub laid_by : Memory → Frame → Layout → Option Instr → Layout
laid_by m top l x = record { stack = stack_by m top l.stack x; heap = heap_by m top l.heap x }
