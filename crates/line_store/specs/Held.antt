-- What a session knows of its disk, whichever bytes a stop has left in the rest.
use Rattle.std.specs.Prelude.{◌≡◌, ◌≢◌, ℕ, zero, suc, ◌+◌, ◌*◌, ◌<◌, ◌≤◌, true, ◌==◌, if◌then◌else◌, List, [], ◌++◌, length, take, get_or, Option, None, Some}
use Rattle.disk_model.specs.Disk.{View, IsStable}
use Rattle.disk_model.specs.Runs.{LeavesOnly}
use Rattle.image_text.specs.Texts.{image_form}
use Rattle.late_logs.specs.Texts.{log_form}
use Rattle.line_store.specs.Reading.{output_file, image_file, log_file, line_of, opens_gate, ranks_of, output_of, table, Saved, saved, Finished, Reading}
use Rattle.line_store.specs.Texts.{IsText}
use Rattle.line_store.specs.Store.{IsSettled, ReadsAsLeft, ReadsAsLeftOr}

-- the committed line, what it holds of each rank, what the ranks saved for the next line, and the outputs
pub record Standing : Type 0 where
  pub line : ℕ
  pub committed : ℕ → Saved
  pub images : ℕ → Option (List ℕ)
  pub logs : ℕ → Option (List ℕ)
  pub outputs : ℕ → List ℕ

abbrev pub set_at : {A : Type 0} → (ℕ → A) → ℕ → A → ℕ → A
set_at f place x k = if k == place then x else f k

-- the bytes, and none where none were saved
abbrev pub got : Option (List ℕ) → List ℕ
got None = []
got (Some bytes) = bytes

-- An output grows.
abbrev pub appended : Standing → ℕ → List ℕ → Standing
appended s rank bytes = record s { outputs = set_at s.outputs rank (s.outputs rank ++ bytes) }

-- A rank's image, and its log, for the next line.
abbrev pub with_image : Standing → ℕ → List ℕ → Standing
with_image s rank image = record s { images = set_at s.images rank (Some image) }

abbrev pub with_log : Standing → ℕ → List ℕ → Standing
with_log s rank log = record s { logs = set_at s.logs rank (Some log) }

-- what the next line would hold of a rank
abbrev pub next_saved : Standing → ℕ → Saved
next_saved s rank = record { image = got (s.images rank); log = got (s.logs rank); output = take (output_of (got (s.images rank))) (s.outputs rank) }

-- The next line is the committed one.
abbrev pub advanced : Standing → Standing
advanced s = record { line = s.line + 1; committed = next_saved s; images = λ r. None; logs = λ r. None; outputs = s.outputs }

-- The outputs are cut back, and nothing is saved for the next line.
abbrev pub cut_back : Standing → List ℕ → Standing
cut_back s lengths = record { line = s.line; committed = s.committed; images = λ r. None; logs = λ r. None; outputs = λ r. take (get_or lengths r 0) (s.outputs r) }

-- all that the next line needs is saved
pub record IsComplete (ranks : ℕ) (s : Standing) : Type 0 where
  pub image : (rank : ℕ) → rank < ranks → s.images rank ≡ Some (got (s.images rank))
  pub log : (rank : ℕ) → rank < ranks → s.logs rank ≡ Some (got (s.logs rank))

-- a line's states, none of which line 0 has
abbrev pub states_at : ℕ → (ℕ → Saved) → ℕ → List Saved
states_at zero f ranks = []
states_at (suc line) f ranks = table f ranks

abbrev pub states_of : ℕ → Standing → List Saved
states_of ranks s = states_at s.line s.committed ranks

-- the length of output that a line's image names, and 0 for line 0
abbrev pub length_at : ℕ → List ℕ → ℕ
length_at zero image = 0
length_at (suc line) image = output_of image

-- the reading of such a disk, unfinished and finished
abbrev pub reading_of : List ℕ → Standing → Option Finished → Reading
reading_of text s finished = record { job = text; line = s.line; states = states_of (ranks_of text) s; finished = finished }

abbrev pub ended_with : ℕ → Standing → List ℕ → Finished
ended_with ranks s ends = record { ends = ends; outputs = table s.outputs ranks }

-- A stop leaves the first n bytes of an output as a read gives them, and all of them are there.
pub record IsFrontKept (v : View) (rank n : ℕ) : Type 0 where
  pub long : n ≤ length (v.seen (output_file rank))
  pub same : (b : List ℕ) → v.may_leave (output_file rank) b → take n b ≡ take n (v.seen (output_file rank))

-- A stop leaves a rank's files of a line as a read gives them.
pub record IsRankKept (v : View) (rank line : ℕ) : Type 0 where
  pub image : IsStable v (image_file rank line)
  pub log : IsStable v (log_file rank line)
  pub front : IsFrontKept v rank (output_of (v.seen (image_file rank line)))

pub record HoldsImage (v : View) (rank line : ℕ) (image : List ℕ) : Type 0 where
  pub seen : v.seen (image_file rank line) ≡ image
  pub stable : IsStable v (image_file rank line)
  pub front : IsFrontKept v rank (output_of image)

pub record HoldsLog (v : View) (rank line : ℕ) (log : List ℕ) : Type 0 where
  pub seen : v.seen (log_file rank line) ≡ log
  pub stable : IsStable v (log_file rank line)

-- The job is there as a read gives it, and whichever line a stop leaves, it leaves this line's files as a read gives them.
pub record IsSafe (text : List ℕ) (v : View) : Type 0 where
  pub gate : opens_gate (v.seen 1) ≡ true
  pub job : v.seen 0 ≡ text
  pub stable : IsStable v 0
  pub kept : (b : List ℕ) → v.may_leave 2 b → 0 < line_of b → (rank : ℕ) → rank < ranks_of text → IsRankKept v rank (line_of b)

-- What is known between two calls of a session.
pub record IsHeld (text : List ℕ) (v : View) (s : Standing) : Type 0 where
  pub files : 5 * ranks_of text + 5 ≤ v.files
  pub safe : IsSafe text v
  pub settled : IsSettled v
  pub line : line_of (v.seen 2) ≡ s.line
  pub outputs : (rank : ℕ) → rank < ranks_of text → v.seen (output_file rank) ≡ s.outputs rank
  pub committed : 0 < s.line → (rank : ℕ) → rank < ranks_of text → saved v.seen s.line rank ≡ s.committed rank
  pub images : (rank : ℕ) (image : List ℕ) → rank < ranks_of text → s.images rank ≡ Some image → HoldsImage v rank (s.line + 1) image
  pub logs : (rank : ℕ) (log : List ℕ) → rank < ranks_of text → s.logs rank ≡ Some log → HoldsLog v rank (s.line + 1) log

-- A call makes no new reading, and leaves the disk safe.
pub record IsQuiet (text : List ℕ) (old new : View) : Type 0 where
  pub run : LeavesOnly old new (ReadsAsLeft old)
  pub safe : IsSafe text new

-- A call makes one reading.
pub record Makes (text : List ℕ) (made : Reading) (old new : View) : Type 0 where
  pub run : LeavesOnly old new (ReadsAsLeftOr old (Some made))
  pub safe : IsSafe text new

-- All that the end opens is synced.
pub record IsEndReady (text : List ℕ) (ranks : ℕ) (s : Standing) (ends : List ℕ) (v : View) : Type 0 where
  pub count : ranks ≡ ranks_of text
  pub held : IsHeld text v s
  pub codes : v.seen 3 ≡ ends
  pub stable : IsStable v 3
  pub outputs : (r : ℕ) → r < ranks → IsStable v (output_file r)

-- what is known of a settled disk
abbrev pub standing_of : View → Standing
standing_of v = record { line = line_of (v.seen 2); committed = saved v.seen (line_of (v.seen 2)); images = λ r. None; logs = λ r. None; outputs = λ r. v.seen (output_file r) }

-- Calls that left all files but one.
pub record Spares (file : ℕ) (old new : View) : Type 0 where
  pub others : (g : ℕ) → g ≢ file → new.seen g ≡ old.seen g
  pub others_left : (g : ℕ) (b : List ℕ) → g ≢ file → new.may_leave g b → old.may_leave g b

-- the lengths are those of the committed line's images
abbrev pub IsCutOf : ℕ → Standing → List ℕ → Type 0
IsCutOf ranks s lengths = (rank : ℕ) → rank < ranks → get_or lengths rank 0 ≡ length_at s.line (s.committed rank).image

-- nothing is saved for the next line, and the outputs are those of the line, which are empty at line 0
abbrev pub output_at : ℕ → List ℕ → List ℕ
output_at zero output = []
output_at (suc line) output = output

pub record IsAtLine (ranks : ℕ) (s : Standing) : Type 0 where
  pub images : (rank : ℕ) → s.images rank ≡ None
  pub logs : (rank : ℕ) → s.logs rank ≡ None
  pub outputs : (rank : ℕ) → rank < ranks → s.outputs rank ≡ output_at s.line (s.committed rank).output

-- A line's files are texts, and its outputs are whole.
pub record IsWell (saved : Saved) : Type 0 where
  pub image : IsText image_form saved.image
  pub log : IsText log_form saved.log
  pub output : length saved.output ≡ output_of saved.image

abbrev pub AreWell : ℕ → Standing → Type 0
AreWell ranks s = 0 < s.line → (rank : ℕ) → rank < ranks → IsWell (s.committed rank)
