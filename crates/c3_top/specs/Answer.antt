-- What is answered to the words and the input, and what is written with it.
use Rattle.std.specs.Prelude.{◌≡◌, ◌⊎◌, ℕ, true, false, ◌<◌, ◌≤◌, List, [], ◌++◌, length, take, flat_map, Option, codes}
use Rattle.std.specs.Fmt.{decimal}
use Rattle.std.specs.Io.KnownBytes.{Appends}
use Rattle.c_tree.specs.declared.kind.Kind.{Kind}
use Rattle.c_kernel.specs.declared.program.Program.{Program}
use Rattle.c3_io.specs.Faults.{Rose}
use Rattle.c3_io.specs.Streams.{AreAll, HasMoreThan}
use Rattle.job_schedule.specs.declared.schedule.Entry.{Entry}
use Rattle.job_schedule.specs.Events.{events_of}
use Rattle.job_schedule.specs.Schedule.{Reads, Whole}
use Rattle.job_schedule.specs.Schedule as schedule
use Rattle.plain_job.specs.Job.{Job, IsReached, start_job}
use Rattle.plain_job.specs.Turn.{AreTurns}
use Rattle.c3_top.specs.declared.command.Command.{Command}
use Rattle.c3_top.specs.declared.command.Command.TheVariants.{Plain, Check, Pass}
use Rattle.c3_top.specs.declared.status.Status.{Status}
use Rattle.c3_top.specs.declared.status.Status.TheVariants.{Done, Unfinished, Usage, Refused, BadSchedule, TooMany, InputLimit, ReadFault, WriteFault, NoMemory}
use Rattle.flat_code.specs.Text.{code_text}
use Rattle.ccift_lower.specs.Lowered.{lowered}
use Rattle.ccift_pass.specs.Passed.{passed}
use Rattle.c3_top.specs.Command.{IsCommand, IsNoCommand}
use Rattle.c3_top.specs.Input.{Parts, parts_of, turn_in}
use Rattle.c3_top.specs.Text.{IsProgram, IsNoProgram}
use Rattle.c3_top.specs.Refusal.{refusal}
use Rattle.c3_top.specs.Run.{all_ended, finished_from, unfinished_from}

-- the greatest length of the input
abbrev pub input_limit : ℕ
input_limit = 1048576

-- an input within the limit that holds this text and these entries of a schedule
pub record HasParts (text : List ℕ) (entries : List Entry) (bytes : List ℕ) : Type 0 where
  pub short : length bytes ≤ input_limit
  pub text_is : (parts_of bytes).text ≡ text
  pub read : Reads (parts_of bytes).schedule (Whole entries)

-- some bytes were read of which this holds; where the input is told, they are the input
abbrev pub OfInput : Option (List ℕ) → (List ℕ → Type 0) → Type 0
OfInput input Holds = (bytes : List ℕ) × AreAll input bytes × Holds bytes

-- A failure-free run of the program in an input within the limit on so many ranks leads to the job, by the turns of the schedule's events.
pub record IsRun (ranks : ℕ) (job : Job) (bytes : List ℕ) : Type 0 where
  pub short : length bytes ≤ input_limit
  pub program : Program
  pub is : IsProgram (parts_of bytes).text program
  pub entries : List Entry
  pub read : Reads (parts_of bytes).schedule (Whole entries)
  pub reached : IsReached program ranks job
  pub turns : AreTurns program.functions (start_job program ranks) (flat_map turn_in (events_of ranks entries)) job

-- a schedule without a fault
abbrev pub HasSchedule : Parts → Type 0
HasSchedule parts = (entries : List Entry) × Reads parts.schedule (Whole entries)

-- an input within the limit, with a schedule, whose text is a program
abbrev pub IsAccepted : List ℕ → Type 0
IsAccepted bytes = (length bytes ≤ input_limit) × HasSchedule (parts_of bytes) × ((p : Program) × IsProgram (parts_of bytes).text p)

-- the same, whose text is this program
abbrev pub HasProgram : Program → List ℕ → Type 0
HasProgram p bytes = (length bytes ≤ input_limit) × HasSchedule (parts_of bytes) × IsProgram (parts_of bytes).text p

-- the text of a program's code with what saves and restores where it stands
abbrev pub passed_text : Program → List ℕ
passed_text p = code_text (passed (lowered p))

-- an input within the limit, with a schedule, whose text is no program
abbrev pub IsRefused : Kind → ℕ → List ℕ → Type 0
IsRefused kind at bytes = (length bytes ≤ input_limit) × HasSchedule (parts_of bytes) × IsNoProgram (parts_of bytes).text kind at

-- an input within the limit whose schedule is at fault
abbrev pub IsBadSchedule : ℕ → List ℕ → Type 0
IsBadSchedule at bytes = (length bytes ≤ input_limit) × Reads (parts_of bytes).schedule (schedule.BadEvent at)

abbrev pub IsTooMany : ℕ → List ℕ → Type 0
IsTooMany count bytes = (length bytes ≤ input_limit) × Reads (parts_of bytes).schedule (schedule.TooMany count)

-- the answer to a command on a whole input within the limit
abbrev pub IsResult : Status → Command → List ℕ → List ℕ → Type 0
IsResult Done (Plain ranks) text bytes = (job : Job) × IsRun ranks job bytes × (all_ended job.ranks ≡ true) × (text ≡ finished_from 0 job.ranks)
IsResult Done Check text bytes = IsAccepted bytes × (text ≡ codes "accepted\n")
IsResult Done Pass text bytes = (p : Program) × HasProgram p bytes × (text ≡ passed_text p)
IsResult Unfinished (Plain ranks) text bytes = (job : Job) × IsRun ranks job bytes × (all_ended job.ranks ≡ false) × (text ≡ unfinished_from 0 job.ranks)
IsResult Unfinished Check text bytes = ⊥
IsResult Unfinished Pass text bytes = ⊥
IsResult (BadSchedule at) c text bytes = IsBadSchedule at bytes × (text ≡ codes "bad schedule at " ++ decimal at ++ codes "\n")
IsResult (TooMany count) c text bytes = IsTooMany count bytes × (text ≡ codes "too many events " ++ decimal count ++ codes "\n")
IsResult (Refused kind at) c text bytes = IsRefused kind at bytes × (text ≡ refusal kind at)
IsResult _ c text bytes = ⊥

-- how often the source had failed before the call and after it: a fault of reading has its cause there, and none is passed over
abbrev pub Counts : Status → ℕ → ℕ → Type 0
Counts ReadFault before now = Rose before now
Counts _ before now = now ≡ before

-- the answer to a command
abbrev pub IsAnswer : Status → Command → Option (List ℕ) → List ℕ → Type 0
IsAnswer Done c input text = OfInput input (IsResult Done c text)
IsAnswer Unfinished c input text = OfInput input (IsResult Unfinished c text)
IsAnswer (BadSchedule at) c input text = OfInput input (IsResult (BadSchedule at) c text)
IsAnswer (TooMany count) c input text = OfInput input (IsResult (TooMany count) c text)
IsAnswer (Refused kind at) c input text = OfInput input (IsResult (Refused kind at) c text)
IsAnswer InputLimit c input text = HasMoreThan input_limit input × (text ≡ codes "input too long\n")
IsAnswer ReadFault c input text = text ≡ codes "read fault\n"
IsAnswer _ c input text = ⊥

-- The answer and its text are due for these words, this input and a source that has failed so often before the call and after it.
abbrev pub IsDue : List (List ℕ) → Option (List ℕ) → ℕ → ℕ → Status → List ℕ → Type 0
IsDue words input before now Usage text = IsNoCommand words × (now ≡ before) × (text ≡ codes "usage\n")
IsDue words input before now status text = (c : Command) × IsCommand words c × Counts status before now × IsAnswer status c input text

-- the run ends, or the text is accepted
abbrev pub IsDone : Command → List ℕ → Type 0
IsDone (Plain ranks) input = (job : Job) × IsRun ranks job input × (all_ended job.ranks ≡ true)
IsDone Check input = IsAccepted input
IsDone Pass input = IsAccepted input

-- some rank of the run hasn't ended
abbrev pub IsLeft : Command → List ℕ → Type 0
IsLeft (Plain ranks) input = (job : Job) × IsRun ranks job input × (all_ended job.ranks ≡ false)
IsLeft Check input = ⊥
IsLeft Pass input = ⊥

-- The text that is due has gone out whole, or a front of it of so many bytes where a put has failed, or nothing for
-- want of memory.
abbrev pub Writes : (Status → List ℕ → Type 0) → Option (List ℕ) → Option (List ℕ) → Status → Type 0
Writes due old new (WriteFault out) = (status : Status) × (text : List ℕ) × due status text × (out < length text) × Appends old new (take out text)
Writes due old new NoMemory = Appends old new []
Writes due old new Done = (text : List ℕ) × due Done text × Appends old new text
Writes due old new Unfinished = (text : List ℕ) × due Unfinished text × Appends old new text
Writes due old new Usage = (text : List ℕ) × due Usage text × Appends old new text
Writes due old new (BadSchedule at) = (text : List ℕ) × due (BadSchedule at) text × Appends old new text
Writes due old new (TooMany count) = (text : List ℕ) × due (TooMany count) text × Appends old new text
Writes due old new (Refused kind at) = (text : List ℕ) × due (Refused kind at) text × Appends old new text
Writes due old new InputLimit = (text : List ℕ) × due InputLimit text × Appends old new text
Writes due old new ReadFault = (text : List ℕ) × due ReadFault text × Appends old new text

abbrev pub IsWriteFault : Status → Type 0
IsWriteFault (WriteFault out) = Unit {0}
IsWriteFault _ = ⊥

-- want of memory, or a fault of the source or the sink
abbrev pub IsFault : Status → Type 0
IsFault Done = ⊥
IsFault Unfinished = ⊥
IsFault Usage = ⊥
IsFault (BadSchedule at) = ⊥
IsFault (TooMany count) = ⊥
IsFault (Refused kind at) = ⊥
IsFault InputLimit = ⊥
IsFault ReadFault = Unit {0}
IsFault (WriteFault out) = Unit {0}
IsFault NoMemory = Unit {0}

-- The answer comes exactly where the condition holds, but for a fault that comes in its place.
pub record Exactly (condition : Type 0) (answer result : Status) : Type 0 where
  pub only : result ≡ answer → condition
  pub always : condition → (result ≡ answer) ⊎ IsFault result
