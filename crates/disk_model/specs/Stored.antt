-- How a disk in memory stores its files, and the list of what happened to them.
use Rattle.std.specs.Prelude.{◌≡◌, ℕ, suc, ◌==◌, if◌then◌else◌, List, [], ◌∷◌, map}
use Rattle.disk_model.specs.declared.calls.Call.{Call}
use Rattle.disk_model.specs.declared.calls.Call.TheVariants.{Write, Cut, Sync, Stop}
use Rattle.disk_model.specs.declared.file.MemFile.{MemFile}
use Rattle.disk_model.specs.Files.{Change, Writes, Cuts, Syncs, Stops, FileState, at_rest, files_after}

abbrev pub change : Call → Change
change (Write file at bytes done) = Writes file at bytes.items done
change (Cut file size done) = Cuts file size done
change (Sync file) = Syncs file
change (Stop choice) = Stops choice

abbrev pub changes : List Call → List Change
changes = map change

abbrev pub state : MemFile → FileState
state m = record { seen = m.seen.items; synced = m.synced.items; ranges = m.ranges.items; least = m.least; greatest = m.greatest }

-- the state of the first entry with this number, and an empty file's where there is no entry
abbrev pub state_in : List MemFile → ℕ → FileState
state_in [] f = at_rest []
state_in (m ∷ ms) f = if m.number == f then state m else state_in ms f

-- the place of that entry, or the length
abbrev pub place_of : ℕ → List MemFile → ℕ
place_of f [] = 0
place_of f (m ∷ ms) = if m.number == f then 0 else suc (place_of f ms)

-- the files are those after the calls
abbrev pub AreAfter : List Call → List MemFile → Type 0
AreAfter calls files = (f : ℕ) → state_in files f ≡ files_after (changes calls) f
