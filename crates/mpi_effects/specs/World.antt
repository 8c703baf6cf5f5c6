-- What a rank's program does to its memory and asks of others.
use Rattle.std.specs.Prelude.{ℕ, ◌+◌, nat_lt, if◌then◌else◌, List, length, Option, Some, Result, Ok, Err}
use Rattle.c3_base.specs.declared.cell.Cell.{Cell}
use Rattle.mpi_words.specs.declared.operation.Op.TheVariants as op
use Rattle.mpi_words.specs.declared.operation.Reply.{Reply}
use Rattle.mpi_words.specs.declared.operation.Reply.TheVariants as reply
use Rattle.c_kernel.specs.declared.program.Expr.{Expr}
use Rattle.c_kernel.specs.declared.program.Place.{Place}
use Rattle.c_memory.specs.Memory.{Memory, store}
use Rattle.c_values.specs.declared.value.Variables.{Variables}
use Rattle.c_values.specs.Value.{then_with, place_of}
use Rattle.mpi_effects.specs.declared.seat.Phase.{Phase}
use Rattle.mpi_effects.specs.declared.requests.Request.{Request}
use Rattle.mpi_effects.specs.declared.requests.Receipt.{Receipt}
use Rattle.mpi_effects.specs.Requests.{plain_request}
use Rattle.mpi_effects.specs.Mpi.{Effect, received}

-- a value is stored at a place
abbrev pub stored : Variables → Memory → Place Expr → Cell → Result Memory ℕ
stored v m place c = then_with (place_of place v m) (λ p. store m p c)

-- bytes that are printed after so many others: 109 where they would be more than 1,048,576
abbrev pub output : ℕ → List ℕ → Result Request ℕ
output printed text = if nat_lt 1048576 (printed + length text) then Err 109 else Ok (plain_request (op.Output text))

-- what a call of MPI comes to
abbrev pub came_to : Memory → Phase → Option Request → Effect
came_to m phase request = record { memory = m; phase = phase; request = request }

-- a message that came for a receive is taken in
abbrev pub taken : Memory → Option Receipt → Reply → Result Memory ℕ
taken m (Some r) (reply.Got source message) = received r m source message
taken m _ _ = Ok m
