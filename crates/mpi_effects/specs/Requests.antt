-- Operations that a rank asks for.
use Rattle.std.specs.Prelude.{ℕ, length, Option, Some, None}
use Rattle.mpi_words.specs.declared.operation.Op.{Op}
use Rattle.mpi_words.specs.declared.operation.Op.TheVariants as op
use Rattle.mpi_effects.specs.declared.requests.Request.{Request}
use Rattle.mpi_effects.specs.declared.requests.Receipt.{Receipt}

-- an operation of whose reply nothing is kept
abbrev pub plain_request : Op → Request
plain_request o = record { operation = o; receipt = None }

-- how many bytes an operation prints
abbrev pub bytes_of : Op → ℕ
bytes_of (op.Send to message) = 0
bytes_of (op.Receive patterns) = 0
bytes_of (op.Output text) = length text
bytes_of op.Mark = 0

abbrev pub bytes_asked : Option Request → ℕ
bytes_asked None = 0
bytes_asked (Some q) = bytes_of q.operation

-- where the message goes that comes back
abbrev pub receipt_of : Option Request → Option Receipt
receipt_of None = None
receipt_of (Some q) = q.receipt
