-- Files by the list of what happened to them, which tells what a stop at each moment might have left.
use Rattle.std.specs.Prelude.{◌≡◌, ℕ, ◌+◌, ◌<◌, ◌≤◌, ◌^◌, min, max, Bool, true, ◌==◌, ◌&&◌, ◌||◌, ltb, leb, IsTrue, if◌then◌else◌, List, [], ◌∷◌, ◌++◌, length, map, take, drop, get_or}
use Rattle.std.specs.List.{range_with_len}
use Rattle.disk_model.specs.Disk.{Contents, View}
use Rattle.disk_model.specs.declared.calls.Choice.{Choice}
use Rattle.disk_model.specs.declared.calls.Choice.TheVariants.{Written, Old, Fill, Short}

-- What happens to files. A call that isn't done changes nothing that a read gives, but a stop may leave any part of its work.
pub data Change : Type 0 where
  Writes : (file at : ℕ) (bytes : List ℕ) (done : Bool) → Change
  Cuts : (file size : ℕ) (done : Bool) → Change
  Syncs : (file : ℕ) → Change
  Stops : (choice : Choice) → Change

-- A file: its bytes as a read gives them, those of the last sync, the ranges written since then (a place and a count), and the
-- least and greatest length since then.
pub record FileState : Type 0 where
  pub seen : List ℕ
  pub synced : List ℕ
  pub ranges : List (ℕ × ℕ)
  pub least : ℕ
  pub greatest : ℕ

-- whether a place lies outside all ranges
abbrev pub is_outside : ℕ → List (ℕ × ℕ) → Bool
is_outside place [] = true
is_outside place (range ∷ ranges) = (ltb place range.0 || leb (range.0 + range.1) place) && is_outside place ranges

-- whether each stop leaves the byte at this place as it was synced
abbrev pub is_kept : FileState → ℕ → Bool
is_kept s place = ltb place s.least && is_outside place s.ranges

-- what a stop may leave of the file
pub record MayLeave (s : FileState) (b : List ℕ) : Type 0 where
  pub no_shorter : s.least ≤ length b
  pub no_longer : length b ≤ s.greatest
  pub stays : (place : ℕ) → IsTrue (is_kept s place) → get_or b place 0 ≡ get_or s.synced place 0

-- what a stop leaves by each choice
abbrev pub left_by : Choice → FileState → List ℕ
left_by Written s = s.seen
left_by Old s = s.synced
left_by (Fill byte) s = map (λ place. if is_kept s place then get_or s.synced place 0 else byte) (range_with_len 0 s.greatest)
left_by Short s = take s.least s.seen

-- a file whose bytes are all synced
abbrev pub at_rest : List ℕ → FileState
at_rest bytes = record { seen = bytes; synced = bytes; ranges = []; least = length bytes; greatest = length bytes }

abbrev pub on_file : Change → FileState → FileState
on_file (Writes file at bytes done) s = record s {
  seen = if done then take at s.seen ++ bytes ++ drop (at + length bytes) s.seen else s.seen;
  ranges = (at, length bytes) ∷ s.ranges;
  greatest = max s.greatest (at + length bytes);
}
on_file (Cuts file size done) s = record s { seen = if done then take size s.seen else s.seen; least = min s.least size }
on_file (Syncs file) s = at_rest s.seen
on_file (Stops choice) s = at_rest (left_by choice s)

-- whether a change is one of this file
abbrev pub is_on : Change → ℕ → Bool
is_on (Writes file at bytes done) f = f == file
is_on (Cuts file size done) f = f == file
is_on (Syncs file) f = f == file
is_on (Stops choice) f = true

abbrev pub after : Change → (ℕ → FileState) → ℕ → FileState
after change s f = if is_on change f then on_file change (s f) else s f

-- the files after these changes, the first of them first
abbrev pub replay : List Change → (ℕ → FileState) → ℕ → FileState
replay [] s = s
replay (change ∷ changes) s = replay changes (after change s)

-- the files of a disk that was empty at first
abbrev pub files_after : List Change → ℕ → FileState
files_after changes = replay changes (λ f. at_rest [])

-- what a stop might have left at some moment since that one, a moment being a number of changes
pub record WasLeft (changes : List Change) (since : ℕ) (c : Contents) : Type 0 where
  pub moment : ℕ
  pub later : since ≤ moment
  pub within : moment ≤ length changes
  pub left : (f : ℕ) → f < 2 ^ 32 → MayLeave (files_after (take moment changes) f) (c f)

abbrev pub view_of : List Change → View
view_of changes = record {
  files = 2 ^ 32;
  seen = λ f. (files_after changes f).seen;
  may_leave = λ f b. MayLeave (files_after changes f) b;
  moment = length changes;
  left_since = WasLeft changes;
}

-- the change is one that the file can take
abbrev pub Fits : Change → FileState → Type 0
Fits (Writes file at bytes done) s = at ≤ length s.seen
Fits (Cuts file size done) s = size ≤ length s.seen
Fits (Syncs file) s = Unit {0}
Fits (Stops choice) s = Unit {0}
