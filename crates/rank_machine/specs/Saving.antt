-- What a saved state holds of a machine.
use Rattle.std.specs.Prelude.{ℕ, zero, suc, List, [], ◌∷◌, length, map, reverse, unwrap_or}
use Rattle.c_memory.specs.Memory.{Memory, Object, cells_of}
use Rattle.c_memory.specs.Resumed.{insert_object}
use Rattle.mpi_effects.specs.declared.seat.Phase.{Phase}
use Rattle.mpi_effects.specs.declared.seat.Phase.TheVariants.{Before, Inside, After}
use Rattle.flat_code.specs.Placed.{Block}
use Rattle.flat_code.specs.Restart.{Saved}
use Rattle.image_text.specs.declared.object.SavedObject.{SavedObject}
use Rattle.image_text.specs.declared.state.RankState.{RankState}
use Rattle.rank_machine.specs.Placing.{Placing, Standing}

-- a saved object, and where it stands
abbrev pub object_of : SavedObject → Object
object_of o = record { serial = o.serial; cells = o.cells }

abbrev pub block_of : SavedObject → Block
block_of o = record { serial = o.serial; place = o.place; length = length o.cells }

-- objects that come among others by ascending serials. A state has those of malloc by ascending places, and memory has the oldest first
abbrev pub among : List Object → List Object → List Object
among done [] = done
among done (o ∷ os) = among (insert_object o done) os

abbrev pub by_serials : List Object → List Object
by_serials os = among [] os

abbrev pub phase_of : ℕ → Phase
phase_of zero = Before
phase_of (suc zero) = Inside
phase_of (suc (suc n)) = After

abbrev pub phase_number : Phase → ℕ
phase_number Before = 0
phase_number Inside = 1
phase_number After = 2

-- what a state gives back. How many cells malloc was ever asked for isn't saved: no more are asked for before it may give NULL
abbrev pub saved_by : RankState → Saved
saved_by s = record {
  sites = s.sites;
  variables = map object_of s.variables;
  heap = by_serials (map object_of s.objects);
  next = s.serial;
  asked = 65536;
  phase = phase_of s.phase;
  printed = s.output;
}

-- what stands at a block, with the cells that memory has for its serial
abbrev pub standing_at : Memory → Block → SavedObject
standing_at m b = record { serial = b.serial; place = b.place; cells = unwrap_or (cells_of m b.serial) [] }

-- what a state holds, where so many collective calls were begun
abbrev pub state_with : Placing → ℕ → RankState
state_with p calls = record {
  output = p.machine.printed;
  serial = p.machine.memory.next;
  phase = phase_number p.machine.phase;
  calls = calls;
  sites = reverse p.machine.sites;
  variables = map (standing_at p.machine.memory) p.stack;
  objects = map (standing_at p.machine.memory) p.heap;
}

abbrev pub state_of : Standing → RankState
state_of p = state_with p.placing p.begun
