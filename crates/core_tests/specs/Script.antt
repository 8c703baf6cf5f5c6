-- A rank that makes the operations of a list, one after the other, and then ends.
use Rattle.std.specs.Prelude.{◌≡◌, ℕ, suc, ◌+◌, Bool, true, List, [], ◌∷◌, length, nat_lt, Option, Some, None, if◌then◌else◌, slice_index_or, pos}
use Rattle.mpi_words.specs.declared.operation.Op.{Op}
use Rattle.mpi_words.specs.declared.operation.Op.TheVariants.{Send, Receive, Output, Mark}
use Rattle.mpi_words.specs.declared.operation.Reply.{Reply}
use Rattle.mpi_words.specs.declared.operation.End.{End}
use Rattle.mpi_words.specs.declared.operation.End.TheVariants.{Exit}
use Rattle.image_text.specs.declared.state.RankState.{RankState}
use Rattle.core_laws.specs.Process.{Wants, Ended}
use Rattle.core_laws.specs.Pausing.{Stepped, Asks}
use Rattle.job_network.specs.Wants.{bytes_of_op, most_bytes}
use Rattle.core_tests.specs.declared.script.Script.{Script}
use Rattle.core_tests.specs.declared.script.Stage.{Stage}
use Rattle.core_tests.specs.declared.script.Stage.TheVariants.{Ready, PastMark, Waits, Over}

abbrev pub begun : List (List Op) → ℕ → ℕ → Script
begun code rank ranks = record { rest = slice_index_or code rank []; stage = Ready; made = 0; bytes = 0; ranks = ranks }

-- whether one of n ranks can make an operation that has put out so many bytes
abbrev pub can_make : ℕ → ℕ → Op → Bool
can_make n bytes (Send to message) = nat_lt to n
can_make n bytes (Receive patterns) = nat_lt 0 (length patterns)
can_make n bytes (Output text) = nat_lt (bytes + length text) (suc most_bytes)
can_make n bytes Mark = true

-- the next operation, where it can be made
abbrev pub first_of : ℕ → ℕ → List Op → Option Op
first_of n bytes [] = None
first_of n bytes (op ∷ rest) = if can_make n bytes op then Some op else None

abbrev pub next_of : Script → Stage → Option Op
next_of s Ready = first_of s.ranks s.bytes s.rest
next_of s PastMark = first_of s.ranks s.bytes s.rest
next_of s Waits = first_of s.ranks s.bytes s.rest
next_of s Over = None

abbrev pub asks : Script → Option Op → Stepped Script
asks s None = record { machine = record s { stage = Over }; stop = Asks Ended }
asks s (Some op) = record { machine = record s { stage = Waits }; stop = Asks (Wants op) }

abbrev pub turned : ℕ → Script → Stepped Script
turned limit s = asks s (next_of s s.stage)

abbrev pub stage_after : Op → Stage
stage_after (Send to message) = Ready
stage_after (Receive patterns) = Ready
stage_after (Output text) = Ready
stage_after Mark = PastMark

abbrev pub made_first : Script → List Op → Script
made_first s [] = s
made_first s (op ∷ rest) = record s { rest = rest; stage = stage_after op; made = suc s.made; bytes = s.bytes + bytes_of_op op }

abbrev pub answered : Script → Reply → Script
answered s reply = made_first s s.rest

abbrev pub head_of : List Op → Option Op
head_of [] = None
head_of (op ∷ rest) = Some op

abbrev pub pending_at : Stage → List Op → Option Op
pending_at Ready rest = None
pending_at PastMark rest = None
pending_at Waits rest = head_of rest
pending_at Over rest = None

abbrev pub pending : Script → Option Op
pending s = pending_at s.stage s.rest

abbrev pub ended_at : Stage → Option End
ended_at Ready = None
ended_at PastMark = None
ended_at Waits = None
ended_at Over = Some (Exit (pos 0))

abbrev pub ended : Script → Option End
ended s = ended_at s.stage

abbrev pub among : Script → ℕ
among s = s.ranks

abbrev pub bytes : Script → ℕ
bytes s = s.bytes

abbrev pub serial : Script → ℕ
serial s = 0

abbrev pub IsMarked : Script → Type 0
IsMarked s = s.stage ≡ PastMark

-- the serial is the place of the next operation
abbrev pub saved : Script → RankState
saved s = record { output = s.bytes; serial = s.made; phase = 1; calls = 0; sites = []; variables = []; objects = [] }
