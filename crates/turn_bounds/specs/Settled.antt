-- What holds of a machine with the places of its objects, before and after each step.
use Rattle.std.specs.Prelude.{◌≡◌, ℕ, ◌+◌, ◌*◌, Bool, true, false, List, [], ◌∷◌, map, Option, Some}
use Rattle.mpi_words.specs.declared.operation.Op.{Op}
use Rattle.mpi_words.specs.declared.operation.End.{End}
use Rattle.flat_code.specs.declared.code.FlatFunction.{FlatFunction}
use Rattle.flat_code.specs.declared.code.Instr.{Instr}
use Rattle.flat_code.specs.declared.code.Instr.TheVariants.{Call}
use Rattle.flat_code.specs.Machine.{Frame, instr_at}
use Rattle.flat_code.specs.Placed.{Block}
use Rattle.runs.specs.Turn.{Act, Goes, Asks, Ends}
use Rattle.rank_machine.specs.Placing.{Placing}
use Rattle.rank_machine.specs.Tied.{AreApart}
use Rattle.turn_bounds.specs.Spaced.{HaveCells}

abbrev pub is_call : Option Instr → Bool
is_call (Some (Call into f arguments)) = true
is_call other = false

abbrev pub AreWaiting : List FlatFunction → List Frame → Type 0
AreWaiting functions [] = Unit {0}
AreWaiting functions (f ∷ fs) = (is_call (instr_at functions f) ≡ true) × AreWaiting functions fs

abbrev pub length_of : Block → ℕ
length_of b = b.length

-- blocks, where malloc was ever asked for so many cells, and calls
pub record AreSettled (functions : List FlatFunction) (most : ℕ) (heap : List Block) (below : List Frame) : Type 0 where
  -- the blocks stand apart among 65,536 cells, and end below the cells that were ever asked for
  pub within : AreApart 65536 0 heap
  pub asked : AreApart most 0 heap
  -- each of them has a cell
  pub cells : HaveCells (map length_of heap)
  -- each of the calls waits at its Call
  pub waiting : AreWaiting functions below

-- the calls below the newest
abbrev pub below : List Frame → List Frame
below [] = []
below (top ∷ frames) = frames

abbrev pub IsSettled : List FlatFunction → Placing → Type 0
IsSettled functions p = AreSettled functions p.machine.memory.asked p.heap (below p.machine.frames)

-- ---- what it comes to

-- it holds of the machine that goes on, or waits for a reply
abbrev pub After : (Placing → Type 0) → Act Placing Op End → Type 0
After P (Goes q) = P q
After P (Asks o q) = P q
After P (Ends e) = Unit {0}

abbrev pub next_serial : Placing → ℕ
next_serial p = p.machine.memory.next

-- the next serial of a machine after a turn in which so many statements may begin, at most
abbrev pub most_serial : ℕ → ℕ → ℕ
most_serial limit next = next + ((limit + 1) * 8192 + 65536)
