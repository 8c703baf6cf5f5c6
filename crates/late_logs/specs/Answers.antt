-- What the bytes of a file come to.
use Rattle.std.specs.Prelude.{◌≡◌, ◌≢◌, ℕ, List, IsTrue, Result, Ok, Err}
use Rattle.file_fields.specs.Forms.{Form, read_whole}
use Rattle.late_logs.specs.declared.whole.NotLog.{NotLog}
use Rattle.late_logs.specs.declared.whole.NotLog.TheVariants.{Wrong, NoMemory}

abbrev pub IsRefused : {A : Type 0} → Form A → List ℕ → NotLog → Type 0
IsRefused F bytes (Wrong at) = read_whole F bytes ≡ Err at
IsRefused F bytes NoMemory = Unit {0}

-- the bytes are the text of this value; or it is told where they aren't a value's text
abbrev pub IsRead : {A : Type 0} → Form A → List ℕ → Result A NotLog → Type 0
IsRead F bytes (Ok x) = read_whole F bytes ≡ Ok x
IsRead F bytes (Err fault) = IsRefused F bytes fault

-- A value that was read is within its limits, and the bytes are its text. Where none was read, the bytes are no value's text.
abbrev pub IsOnly : {A : Type 0} → Form A → List ℕ → Result A NotLog → Type 0
IsOnly F bytes (Ok x) = IsTrue (F.fits x) × (bytes ≡ F.text x)
IsOnly {A = A} F bytes (Err (Wrong at)) = (x : A) → IsTrue (F.fits x) → bytes ≢ F.text x
IsOnly F bytes (Err NoMemory) = Unit {0}
