-- Saved states that a machine of a code can get back.
use Rattle.std.specs.Prelude.{◌≡◌, ◌≢◌, ℕ, ◌+◌, ◌^◌, ◌<◌, ◌≤◌, List, [], ◌∷◌, ◌++◌, length, map, reverse}
use Rattle.std.specs.List.{All}
use Rattle.c_memory.specs.Memory.{total}
use Rattle.c_memory.specs.Order.{IsRising}
use Rattle.flat_code.specs.declared.code.Code.{Code}
use Rattle.flat_code.specs.declared.code.FlatFunction.{FlatFunction}
use Rattle.flat_code.specs.Machine.{lengths_in}
use Rattle.flat_code.specs.Restart.{LeadsTo, Stage}
use Rattle.image_text.specs.declared.object.SavedObject.{SavedObject}
use Rattle.image_text.specs.declared.state.RankState.{RankState}
use Rattle.rank_machine.specs.Placing.{Standing}
use Rattle.rank_machine.specs.Saving.{block_of}
use Rattle.rank_machine.specs.Tied.{AreApart}

-- ---- where variables stand: the place of the first cell, and how many cells there are

pub record Span : Type 0 where
  pub place : ℕ
  pub length : ℕ

abbrev pub span_of : SavedObject → Span
span_of o = record { place = o.place; length = length o.cells }

-- variables of so many cells each, one after another
abbrev pub spans : ℕ → List ℕ → List Span
spans at [] = []
spans at (n ∷ ns) = record { place = at; length = n } ∷ spans (at + n) ns

-- the variables of calls one after another, each call's own cell before them
abbrev pub spans_of : List FlatFunction → ℕ → List Stage → List Span
spans_of functions at [] = []
spans_of functions at (s ∷ ss) = spans (at + 1) (lengths_in functions s.function) ++ spans_of functions (at + 1 + total (lengths_in functions s.function)) ss

-- ---- serials

abbrev pub serial_of : SavedObject → ℕ
serial_of o = o.serial

-- an object's serial, and those of its cells
abbrev pub IsBelow : ℕ → SavedObject → Type 0
IsBelow next o = (o.serial < next) × All (λ c. c.serial < next) o.cells

-- no serial stands twice
abbrev pub AreDistinct : List SavedObject → Type 0
AreDistinct [] = Unit {0}
AreDistinct (o ∷ os) = All (λ x. x.serial ≢ o.serial) os × AreDistinct os

-- ----

-- in the order of an image's fields
pub record IsWellFormed (c : Code) (s : RankState) : Type 0 where
  pub output : s.output ≤ 1048576
  pub serial : 1 ≤ s.serial
  pub phase : s.phase ≤ 2
  -- the sites lead from main through calls to a mark, and the stack has room for the frames
  pub sites : LeadsTo c s.sites
  -- the variables are those of these frames, in order
  pub frames : map span_of s.variables ≡ spans_of c.functions 0 sites.stages
  pub ascending : IsRising serial_of 1 s.variables (2 ^ 64)
  pub cells : All (λ o. 1 ≤ length o.cells) s.objects
  pub apart : AreApart 65536 0 (map block_of s.objects)
  pub positive : All (λ o. 1 ≤ o.serial) s.objects
  -- no serial is the next one's or greater, and no two objects have the same
  pub below : All (IsBelow s.serial) (s.variables ++ s.objects)
  pub distinct : AreDistinct (s.variables ++ s.objects)

-- a state that a machine at the mark of its sites can get back
pub record IsFor (p : Standing) (s : RankState) : Type 0 where
  pub code : Code
  pub functions : code.functions ≡ p.functions
  pub formed : IsWellFormed code s
  pub sites : s.sites ≡ reverse p.placing.machine.sites
