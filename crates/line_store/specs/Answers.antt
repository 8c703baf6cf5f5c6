-- The answers of the calls, and their causes.
use Rattle.std.specs.Prelude.{◌≡◌, ℕ, ◌≤◌, Bool, true, false, List, Result, Ok, Err, IsErrOf, OnOk, IsTrue}
use Rattle.c3_io.specs.Faults.{Rose}
use Rattle.file_fields.specs.Forms.{Form, read_whole}
use Rattle.line_store.specs.declared.fault.StoreFault.{StoreFault}
use Rattle.line_store.specs.declared.fault.StoreFault.TheVariants.{DiskFault, JobThere, NoJob, Damaged, NoMemory}
use Rattle.line_store.specs.Texts.{job_form}

-- Only a fault that the disk counts is answered as one of the disk.
pub record HasReason {A : Type 0} (before now : ℕ) (result : Result A StoreFault) : Type 0 where
  pub later : before ≤ now
  pub fault : IsErrOf result DiskFault → Rose before now
  pub kept : OnOk result (now ≡ before)

-- The call answers what it made, a fault of the disk or want of memory.
abbrev pub IsPlain : StoreFault → Type 0
IsPlain DiskFault = Unit {0}
IsPlain NoMemory = Unit {0}
IsPlain JobThere = ⊥
IsPlain NoJob = ⊥
IsPlain (Damaged file at) = ⊥

-- A file is damaged from a place on; beside that there are faults of the disk, and want of memory is free.
abbrev pub Refused : (ℕ → ℕ → Type 0) → StoreFault → Type 0
Refused Wrong (Damaged file at) = Wrong file at
Refused Wrong DiskFault = Unit {0}
Refused Wrong NoMemory = Unit {0}
Refused Wrong JobThere = ⊥
Refused Wrong NoJob = ⊥

-- Bytes that are no text, from a place on.
abbrev pub NoText : (ℕ → ℕ → Type 0) → StoreFault → Type 0
NoText Wrong (Damaged file at) = Wrong file at
NoText Wrong NoMemory = Unit {0}
NoText Wrong DiskFault = ⊥
NoText Wrong JobThere = ⊥
NoText Wrong NoJob = ⊥

-- The bytes of this file are no value's text, from this place on.
abbrev pub IsWrong : {A : Type 0} → Form A → ℕ → List ℕ → ℕ → ℕ → Type 0
IsWrong F this bytes file at = (file ≡ this) × (read_whole F bytes ≡ Err at)

-- It is within its limits, and the bytes are its text.
abbrev pub IsTextOf : {A : Type 0} → Form A → List ℕ → A → Type 0
IsTextOf F bytes x = IsTrue (F.fits x) × (bytes ≡ F.text x)

-- by the gate: a job is made where it isn't open, and found where it is
abbrev pub IsMade : Bool → Result (Unit {0}) StoreFault → Type 0
IsMade is_open (Ok done) = is_open ≡ false
IsMade is_open (Err JobThere) = is_open ≡ true
IsMade is_open (Err DiskFault) = Unit {0}
IsMade is_open (Err NoMemory) = Unit {0}
IsMade is_open (Err NoJob) = ⊥
IsMade is_open (Err (Damaged file at)) = ⊥

abbrev pub IsNoJob : Bool → List ℕ → StoreFault → Type 0
IsNoJob is_open text NoJob = is_open ≡ false
IsNoJob is_open text (Damaged file at) = (is_open ≡ true) × IsWrong job_form 0 text file at
IsNoJob is_open text DiskFault = Unit {0}
IsNoJob is_open text NoMemory = Unit {0}
IsNoJob is_open text JobThere = ⊥
