-- What a function read from what is left of a text.
use Rattle.std.specs.Prelude.{◌≡◌, ℕ, List, Result, Ok, Err}
use Rattle.file_fields.specs.declared.reading.ReadFault.{ReadFault}
use Rattle.file_fields.specs.declared.reading.ReadFault.TheVariants.{Wrong, NoMemory}
use Rattle.file_fields.specs.Forms.{Form}

abbrev pub Stopped : {A : Type 0} → Form A → List ℕ → List ℕ → ReadFault → Type 0
Stopped F old new Wrong = F.read old ≡ Err new
Stopped F old new NoMemory = Unit {0}

-- It is a value of this form, and new is left behind it; or new is left from the field on that isn't right.
abbrev pub Reads : {A : Type 0} → Form A → List ℕ → List ℕ → Result A ReadFault → Type 0
Reads F old new (Ok x) = F.read old ≡ Ok (record { value = x; rest = new })
Reads F old new (Err fault) = Stopped F old new fault
