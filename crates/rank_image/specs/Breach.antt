-- The first row of an image that breaks a rule with the rows before it.
use Rattle.std.specs.Prelude.{◌≡◌, ℕ, ◌^◌, ◌≤◌, List, ◌++◌, length, map, Option, Some, None}
use Rattle.std.specs.List.{All}
use Rattle.c_memory.specs.Order.{IsRising}
use Rattle.flat_code.specs.declared.code.Code.{Code}
use Rattle.flat_code.specs.Restart.{LeadsTo}
use Rattle.image_text.specs.declared.field.Field.{Field}
use Rattle.image_text.specs.declared.field.Field.TheVariants.{Sites, Variables, Objects}
use Rattle.image_text.specs.declared.object.SavedObject.{SavedObject}
use Rattle.image_text.specs.declared.state.RankState.{RankState}
use Rattle.rank_machine.specs.Saving.{block_of}
use Rattle.rank_machine.specs.Tied.{AreApart}
use Rattle.rank_machine.specs.WellFormed.{Span, span_of, spans_of, serial_of, IsBelow, AreDistinct, IsWellFormed}
use Rattle.rank_image.specs.declared.fault.RestoreFault.{RestoreFault}
use Rattle.rank_image.specs.declared.fault.RestoreFault.TheVariants.{BadImage, NoMemory}

-- what the file of an image says of a state's numbers
pub record IsWithinLimits (s : RankState) : Type 0 where
  pub output : s.output ≤ 1048576
  pub serial : 1 ≤ s.serial
  pub phase : s.phase ≤ 2

-- the variables stand as those of the calls do, in order
pub record HasVariables (calls : List Span) (s : RankState) : Type 0 where
  pub frames : map span_of s.variables ≡ calls
  pub ascending : IsRising serial_of 1 s.variables (2 ^ 64)
  pub below : All (IsBelow s.serial) s.variables

-- an object of malloc, where this serial is the next
pub record IsObject (next : ℕ) (o : SavedObject) : Type 0 where
  pub cells : 1 ≤ length o.cells
  pub positive : 1 ≤ o.serial
  pub below : IsBelow next o

-- the objects stand apart, and have serials that neither a variable nor another object has
pub record HasObjects (s : RankState) : Type 0 where
  pub each : All (IsObject s.serial) s.objects
  pub apart : AreApart 65536 0 (map block_of s.objects)
  pub distinct : AreDistinct (s.variables ++ s.objects)

-- the first row that is broken, or none
abbrev pub FirstBreach : Code → RankState → Option Field → Type 0
FirstBreach c s None = IsWellFormed c s
FirstBreach c s (Some Sites) = LeadsTo c s.sites → ⊥
FirstBreach c s (Some Variables) = LeadsTo c s.sites × ((to : LeadsTo c s.sites) → HasVariables (spans_of c.functions 0 to.stages) s → ⊥)
FirstBreach c s (Some Objects) = ((to : LeadsTo c s.sites) × HasVariables (spans_of c.functions 0 to.stages) s) × (HasObjects s → ⊥)
FirstBreach c s (Some other) = ⊥

-- what is told of a state
abbrev pub IsFault : Code → RankState → RestoreFault → Type 0
IsFault c s (BadImage field) = FirstBreach c s (Some field)
IsFault c s NoMemory = Unit {0}
