-- What the calls over a disk keep of its reading.
use Rattle.std.specs.Prelude.{◌≡◌, ◌⊎◌, ℕ, ◌+◌, ◌*◌, ◌<◌, ◌≤◌, true, false, List, [], length, take, Option, None, Some}
use Rattle.disk_model.specs.Disk.{Contents, View, Leaves, IsStable}
use Rattle.disk_model.specs.Runs.{LeavesOnly}
use Rattle.line_store.specs.Reading.{output_file, image_file, log_file, line_of, opens_gate, opens_end, ranks_of, output_of, Reading, reading}

-- Every content that a stop may leave has the line that a read gives, a line file of at most one byte more, and no open end.
pub record IsSettled (v : View) : Type 0 where
  pub line : (b : List ℕ) → v.may_leave 2 b → line_of b ≡ line_of (v.seen 2)
  pub short : (b : List ℕ) → v.may_leave 2 b → length b ≤ line_of (v.seen 2) + 1
  pub end : (b : List ℕ) → v.may_leave 4 b → opens_end b ≡ false

-- the files of the ranks are files of the disk
abbrev pub HasFiles : ℕ → ℕ → Type 0
HasFiles files ranks = 5 * ranks + 5 ≤ files

-- the reading of a content that a stop might have left
abbrev pub ReadsAsLeft : View → Contents → Type 0
ReadsAsLeft v c = (d : Contents) × Leaves v d × (reading c ≡ reading d)

-- such a reading, or the one that is made
abbrev pub ReadsAsLeftOr : View → Option Reading → Contents → Type 0
ReadsAsLeftOr v made c = ReadsAsLeft v c ⊎ (reading c ≡ made)

-- All that the commit of a line opens is synced.
pub record IsSaved (v : View) (line : ℕ) : Type 0 where
  pub job : IsStable v 0
  pub images : (rank : ℕ) → rank < ranks_of (v.seen 0) → IsStable v (image_file rank line)
  pub logs : (rank : ℕ) → rank < ranks_of (v.seen 0) → IsStable v (log_file rank line)
  pub outputs : (rank : ℕ) → rank < ranks_of (v.seen 0) → (b : List ℕ) → v.may_leave (output_file rank) b
      → take (output_of (v.seen (image_file rank line))) b ≡ take (output_of (v.seen (image_file rank line))) (v.seen (output_file rank))

-- a change that keeps this line
abbrev pub StaysAt : ℕ → List ℕ → List ℕ → Type 0
StaysAt line a b = (line_of a ≡ line) × (line_of b ≡ line)

-- any change
abbrev pub Anyhow : List ℕ → List ℕ → Type 0
Anyhow a b = Unit {0}

-- the gate is closed in all that a stop may leave
abbrev pub IsShut : View → Type 0
IsShut v = (b : List ℕ) → v.may_leave 1 b → opens_gate b ≡ false

-- Some calls under a closed gate.
pub record StaysShut (old new : View) : Type 0 where
  pub run : LeavesOnly old new (λ c. reading c ≡ None)
  pub shut : IsShut new

-- the file is empty and synced
pub record IsEmpty (v : View) (file : ℕ) : Type 0 where
  pub none : v.seen file ≡ []
  pub stable : IsStable v file

-- All that the gate opens is synced: the job's text, and line 0 without an end or outputs.
pub record IsReady (ranks : ℕ) (text : List ℕ) (v : View) : Type 0 where
  pub job : v.seen 0 ≡ text
  pub durable : IsStable v 0
  pub line : IsEmpty v 2
  pub codes : IsEmpty v 3
  pub end : IsEmpty v 4
  pub outputs : (rank : ℕ) → rank < ranks → IsEmpty v (output_file rank)

-- and the gate is open, whatever a stop leaves
pub record IsNew (ranks : ℕ) (text : List ℕ) (v : View) : Type 0 where
  pub ready : IsReady ranks text v
  pub gate : opens_gate (v.seen 1) ≡ true
  pub durable : IsStable v 1

-- the reading of a job that begins
abbrev pub new_job : List ℕ → Reading
new_job text = record { job = text; line = 0; states = []; finished = None }

-- the gate is closed, or the job begins
abbrev pub IsClosedOr : List ℕ → Contents → Type 0
IsClosedOr text c = (reading c ≡ None) ⊎ (reading c ≡ Some (new_job text))

-- a file keeps its first n bytes
pub record StaysTo (n : ℕ) (a b : List ℕ) : Type 0 where
  pub front : take n b ≡ take n a
  pub long : n ≤ length a → n ≤ length b
