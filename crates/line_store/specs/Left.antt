-- What a job's disk may be left as, over its reading.
use Rattle.std.specs.Prelude.{◌≡◌, ℕ, ◌<◌, List, Option, None, Some}
use Rattle.disk_model.specs.Disk.{Contents, View, Leaves}
use Rattle.disk_model.specs.Runs.{LeavesOnly}
use Rattle.line_store.specs.Reading.{Saved, Finished, Reading, reading, table}
use Rattle.line_store.specs.Held.{IsWell, IsSafe}

-- What the layer above asks of a job: its text, the lines that stand for a state, the ends and outputs of a finished run, and
-- the outputs that are within one run. A line that stands is well formed.
pub record Meaning : Type 1 where
  pub text : List ℕ
  pub stands : ℕ → List Saved → Type 0
  pub is_finished : Finished → Type 0
  pub is_within : List (List ℕ) → Type 0
  pub well : (line : ℕ) (f : ℕ → Saved) (ranks : ℕ) → 0 < line → stands line (table f ranks) → (rank : ℕ) → rank < ranks → IsWell (f rank)

-- the contents are of this job, and its line and its end hold
pub record IsLeft (job : Meaning) (r : Reading) : Type 0 where
  pub text : r.job ≡ job.text
  pub line : 0 < r.line → job.stands r.line r.states
  pub finished : (f : Finished) → r.finished ≡ Some f → job.is_finished f

-- the gate is closed, or they are of the job
abbrev pub IsLeftOrClosed : Meaning → Option Reading → Type 0
IsLeftOrClosed job None = Unit {0}
IsLeftOrClosed job (Some r) = IsLeft job r

-- the gate is closed in all that a stop may leave
abbrev pub IsFresh : View → Type 0
IsFresh v = (c : Contents) → Leaves v c → reading c ≡ None

-- all that a stop may leave is of the job where the gate is open, which it is as read, and its files are as read
pub record IsBegun (job : Meaning) (v : View) : Type 0 where
  pub safe : IsSafe job.text v
  pub left : (c : Contents) → Leaves v c → IsLeftOrClosed job (reading c)

-- at every moment
abbrev pub IsRun : Meaning → View → View → Type 0
IsRun job old new = LeavesOnly old new (λ c. IsLeftOrClosed job (reading c))
