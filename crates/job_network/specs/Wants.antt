-- What a process wants, and the answers to it.
use Rattle.std.specs.Prelude.{ℕ, ◌+◌, ◌<◌, ◌≤◌, length, Option, Some, None}
use Rattle.mpi_words.specs.declared.operation.Want.{Want}
use Rattle.mpi_words.specs.declared.operation.Want.TheVariants as want
use Rattle.mpi_words.specs.declared.operation.Op.{Op}
use Rattle.mpi_words.specs.declared.operation.Op.TheVariants.{Send, Receive, Output, Mark}
use Rattle.mpi_words.specs.declared.operation.Reply.{Reply}
use Rattle.mpi_words.specs.declared.operation.Reply.TheVariants.{Done, Got}
use Rattle.mpi_words.specs.declared.operation.End.{End}
use Rattle.core_laws.specs.Pausing.{Stop_at, Paused, Asks}
use Rattle.core_laws.specs.Process.{Wants, Ended}

abbrev pub stop_of : Want → Stop_at
stop_of want.Paused = Paused
stop_of (want.Wants op) = Asks (Wants op)
stop_of (want.Ended end) = Asks Ended

abbrev pub pending_of : Want → Option Op
pending_of want.Paused = None
pending_of (want.Wants op) = Some op
pending_of (want.Ended end) = None

abbrev pub end_of : Want → Option End
end_of want.Paused = None
end_of (want.Wants op) = None
end_of (want.Ended end) = Some end

abbrev pub most_bytes : ℕ
most_bytes = 1048576

-- what one of n ranks may want that has put out so many bytes
abbrev pub FitsOp : ℕ → ℕ → Op → Type 0
FitsOp n bytes (Send to message) = to < n
FitsOp n bytes (Receive patterns) = 0 < length patterns
FitsOp n bytes (Output text) = bytes + length text ≤ most_bytes
FitsOp n bytes Mark = Unit {0}

abbrev pub Fits : ℕ → ℕ → Want → Type 0
Fits n bytes want.Paused = Unit {0}
Fits n bytes (want.Wants op) = FitsOp n bytes op
Fits n bytes (want.Ended end) = Unit {0}

-- which reply fits an operation
abbrev pub AnswersOp : Op → Reply → Type 0
AnswersOp (Send to message) Done = Unit {0}
AnswersOp (Send to message) (Got source got) = ⊥
AnswersOp (Receive patterns) Done = ⊥
AnswersOp (Receive patterns) (Got source got) = Unit {0}
AnswersOp (Output text) Done = Unit {0}
AnswersOp (Output text) (Got source got) = ⊥
AnswersOp Mark Done = Unit {0}
AnswersOp Mark (Got source got) = ⊥

abbrev pub Answers : Option Op → Reply → Type 0
Answers None reply = ⊥
Answers (Some op) reply = AnswersOp op reply

abbrev pub bytes_of_op : Op → ℕ
bytes_of_op (Send to message) = 0
bytes_of_op (Receive patterns) = 0
bytes_of_op (Output text) = length text
bytes_of_op Mark = 0

abbrev pub bytes_of : Option Op → ℕ
bytes_of None = 0
bytes_of (Some op) = bytes_of_op op

-- whether it is a mark
abbrev pub IsMark : Option Op → Type 0
IsMark None = ⊥
IsMark (Some (Send to message)) = ⊥
IsMark (Some (Receive patterns)) = ⊥
IsMark (Some (Output text)) = ⊥
IsMark (Some Mark) = Unit {0}
