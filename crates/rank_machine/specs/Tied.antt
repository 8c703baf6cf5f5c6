-- Memory and the places of the objects of malloc.
use Rattle.std.specs.Prelude.{◌≡◌, ℕ, ◌+◌, ◌≤◌, ◌<◌, nat_eq, if◌then◌else◌, List, [], ◌∷◌, length, map, Option, Some, None}
use Rattle.c_memory.specs.Memory.{Object, Memory}
use Rattle.flat_code.specs.Placed.{Block}

-- an object's serial and how many cells it has
pub record Size : Type 0 where
  pub serial : ℕ
  pub cells : ℕ

abbrev pub size_of : Object → Size
size_of o = record { serial = o.serial; cells = length o.cells }

abbrev pub sizes_of : List Object → List Size
sizes_of os = map size_of os

-- how many cells the object with a serial has
abbrev pub cells_at : List Size → ℕ → Option ℕ
cells_at [] serial = None
cells_at (o ∷ os) serial = if nat_eq o.serial serial then Some o.cells else cells_at os serial

abbrev pub without_size : List Size → ℕ → List Size
without_size [] serial = []
without_size (o ∷ os) serial = if nat_eq o.serial serial then os else o ∷ without_size os serial

-- the blocks follow one another from a first place on, and the last ends at most there
abbrev pub AreApart : ℕ → ℕ → List Block → Type 0
AreApart most low [] = low ≤ most
AreApart most low (b ∷ bs) = (low ≤ b.place) × AreApart most (b.place + b.length) bs

-- each object has one block, of its length, and each block one object
abbrev pub AreTied : List Size → List Block → Type 0
AreTied os [] = os ≡ []
AreTied os (b ∷ bs) = (cells_at os b.serial ≡ Some b.length) × AreTied (without_size os b.serial) bs

-- serials from 1 on, below the next
abbrev pub AreBelow : ℕ → List Size → Type 0
AreBelow next [] = 0 < next
AreBelow next (o ∷ os) = (0 < o.serial) × (o.serial < next) × AreBelow next os

-- a memory, and where the objects of malloc stand, by ascending places
pub record Places : Type 0 where
  pub memory : Memory
  pub blocks : List Block

-- the blocks are those of the objects of malloc; they end below 65,536, and below the cells that were ever asked for
pub record IsTied (m : Memory) (bs : List Block) : Type 0 where
  pub within : AreApart 65536 0 bs
  pub asked : AreApart m.asked 0 bs
  pub tied : AreTied (sizes_of m.heap) bs
  pub serials : AreBelow m.next (sizes_of m.heap)
