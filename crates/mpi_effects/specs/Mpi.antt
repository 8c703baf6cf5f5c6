-- What a call of MPI does, when its arguments have values (MPI 3.1 3.2, 8.7). A fault is its code, and nothing is written by it.
use Rattle.std.specs.Prelude.{ℕ, ℤ, pos, negsuc, ◌+ℤ◌, ◌-ℤ◌, unsigned_abs, Bool, true, false, not, ◌||◌, ◌&&◌, nat_eq, nat_lt, if◌then◌else◌, List, [], ◌∷◌, length, map, Option, Some, None, option_map, unwrap_or, Result, Ok, Err, slice_get}
use Rattle.c3_base.specs.declared.cell.Cell.{Cell}
use Rattle.mpi_words.specs.declared.message.Datatype.{Datatype}
use Rattle.mpi_words.specs.declared.message.Datatype.TheVariants as datatype
use Rattle.mpi_words.specs.declared.message.Message.{Message}
use Rattle.mpi_words.specs.declared.operation.Op.TheVariants as op
use Rattle.c_kernel.specs.declared.types.IntegerType.TheVariants.{Int}
use Rattle.c_kernel.specs.Elements.{element_type}
use Rattle.c_kernel.specs.declared.program.MpiFunction.{MpiFunction}
use Rattle.c_kernel.specs.declared.program.MpiFunction.TheVariants as function
use Rattle.c_memory.specs.declared.spot.Spot.{Spot}
use Rattle.mpi_effects.specs.declared.seat.Seat.{Seat}
use Rattle.mpi_effects.specs.declared.seat.Phase.{Phase}
use Rattle.mpi_effects.specs.declared.seat.Phase.TheVariants.{Before, Inside, After}
use Rattle.mpi_effects.specs.declared.requests.Request.{Request}
use Rattle.mpi_effects.specs.declared.requests.Receipt.{Receipt}
use Rattle.mpi_effects.specs.declared.mpi.Effect as mpi
use Rattle.c_memory.specs.Memory.{Memory, number, null, spot_of, load, load_all, put, put_all, store}
use Rattle.c_values.specs.Value.{then_with, narrowed, is_zero}

-- ---- numbers that a call takes

-- 0 to n - 1
abbrev pub is_below : ℕ → ℤ → Bool
is_below n (pos k) = nat_lt k n
is_below n (negsuc k) = false

-- MPI_ANY_SOURCE and MPI_ANY_TAG
abbrev pub is_any : ℤ → Bool
is_any n = is_zero (n +ℤ pos 1)

abbrev pub is_proc_null : ℤ → Bool
is_proc_null n = is_zero (n +ℤ pos 2)

abbrev pub is_count : ℤ → Bool
is_count n = is_below 4097 n

abbrev pub is_tag : ℤ → Bool
is_tag n = is_below 32768 n

-- where a message may go, and where one may come from
abbrev pub is_destination : Seat → ℤ → Bool
is_destination seat n = is_below seat.ranks n || is_proc_null n

abbrev pub is_source : Seat → ℤ → Bool
is_source seat n = is_below seat.ranks n || (is_proc_null n || (seat.any_source && is_any n))

-- ---- datatypes (3.2.2)

-- a status's kind; 0 is none
abbrev pub code_of : Datatype → ℕ
code_of datatype.Char = 1
code_of datatype.Int = 2
code_of datatype.Long = 3

abbrev pub same_datatype : Datatype → Datatype → Bool
same_datatype a b = nat_eq (code_of a) (code_of b)

-- ---- what a call comes to

-- the memory and the phase after it, and an operation that is asked for
pub record Effect : Type 0 where
  pub memory : Memory
  pub phase : Phase
  pub request : Option Request

-- a test, before what comes next
abbrev pub require : {A : Type 0} → Bool → ℕ → Result A ℕ → Result A ℕ
require false code next = Err code
require true code next = next

-- a call that needs no other rank leaves this memory
abbrev pub leaves : Memory → Result Effect ℕ
leaves m = Ok (record { memory = m; phase = Inside; request = None })

-- another waits for its reply
abbrev pub requests : Memory → Request → Result Effect ℕ
requests m q = Ok (record { memory = m; phase = Inside; request = Some q })

-- a number goes where a pointer points
abbrev pub writes : Memory → Cell → ℤ → Result Effect ℕ
writes m p n = then_with (store m (spot_of p) (number n)) leaves

-- ---- MPI_Send (3.2.1)

abbrev pub message : Datatype → ℤ → List Cell → Message
message kind tag cells = record { context = 0; tag = tag; kind = kind; items = map (λ c. narrowed (element_type kind) c.word) cells }

abbrev pub sending : Datatype → ℤ → ℤ → List Cell → Request
sending kind to tag cells = record { operation = op.Send (unsigned_abs to) (message kind tag cells); receipt = None }

abbrev pub send : Seat → Memory → Datatype → Cell → ℤ → ℤ → ℤ → Result Effect ℕ
send seat m kind buffer count to tag =
    require (is_count count) 116 (
    require (is_destination seat to) 113 (
    require (is_tag tag) 114 (
    if is_proc_null to then leaves m
    else then_with (load_all m (spot_of buffer) (unsigned_abs count)) (λ cells. requests m (sending kind to tag cells)))))

-- ---- MPI_Recv (3.2.4), and its status (3.2.5)

-- MPI_SOURCE, MPI_TAG, how many elements came, and their datatype
abbrev pub status_cells : ℤ → ℤ → ℕ → ℕ → List Cell
status_cells source tag count kind = number source ∷ number tag ∷ number (pos count) ∷ number (pos kind) ∷ []

-- a status that isn't ignored is tested, and set
abbrev pub tested_status : Memory → Option Spot → Result (List Cell) ℕ
tested_status m None = Ok []
tested_status m (Some p) = load_all m p 4

abbrev pub put_status : Memory → Option Spot → List Cell → Memory
put_status m None cells = m
put_status m (Some p) cells = put_all m p cells

-- from MPI_PROC_NULL nothing comes (3.11)
abbrev pub no_message : Memory → Option Spot → Result Effect ℕ
no_message m status = then_with (tested_status m status) (λ old. leaves (put_status m status (status_cells (negsuc 1) (negsuc 0) 0 0)))

-- a rank or a tag, unless it is any
abbrev pub unless_any : ℤ → Option ℤ
unless_any n = if is_any n then None else Some n

abbrev pub receiving : Datatype → Spot → ℕ → ℤ → ℤ → Option Spot → Request
receiving kind buffer count from tag status = record {
  operation = op.Receive (record { source = option_map unsigned_abs (unless_any from); context = 0; tag = unless_any tag } ∷ []);
  receipt = Some (record { buffer = buffer; count = count; kind = kind; status = status });
}

abbrev pub waits : Memory → Datatype → Spot → ℕ → ℤ → ℤ → Option Spot → Result Effect ℕ
waits m kind buffer count from tag status =
    then_with (load_all m buffer count) (λ old.
    then_with (tested_status m status) (λ older. requests m (receiving kind buffer count from tag status)))

abbrev pub receive : Seat → Memory → Datatype → Cell → ℤ → ℤ → ℤ → Option Cell → Result Effect ℕ
receive seat m kind buffer count from tag status =
    require (is_count count) 116 (
    require (is_source seat from) 113 (
    require (is_tag tag || is_any tag) 114 (
    if is_proc_null from then no_message m (option_map spot_of status)
    else waits m kind (spot_of buffer) (unsigned_abs count) from tag (option_map spot_of status))))

-- the message that it gets: 112 where its datatype is another, and 111 where it is too long. The elements are written before the status
abbrev pub received : Receipt → Memory → ℕ → Message → Result Memory ℕ
received r m source got =
    require (same_datatype got.kind r.kind) 112 (
    require (not (nat_lt r.count (length got.items))) 111 (
    Ok (put_status (put_all m r.buffer (map number got.items)) r.status (status_cells (pos source) got.tag (length got.items) (code_of got.kind)))))

-- ---- MPI_Get_count (3.2.5)

-- a cell of a status, as an int
abbrev pub status_word : List Cell → ℕ → ℤ
status_word cells k = narrowed Int (unwrap_or (slice_get cells k) null).word

-- 112 where the kind is another datatype's
abbrev pub counted : Memory → Datatype → Cell → List Cell → Result Effect ℕ
counted m kind p cells =
    require (is_zero (status_word cells 3) || is_zero (status_word cells 3 -ℤ pos (code_of kind))) 112
    (leaves (put m (spot_of p) (number (status_word cells 2))))

abbrev pub get_count : Memory → Datatype → Cell → Cell → Result Effect ℕ
get_count m kind status p =
    then_with (load_all m (spot_of status) 4) (λ cells.
    then_with (load m (spot_of p)) (λ old. counted m kind p cells))

-- ---- calls, with their arguments in the text's order

abbrev pub argument : List Cell → ℕ → Cell
argument vs k = unwrap_or (slice_get vs k) null

abbrev pub called : Seat → Memory → MpiFunction → List Cell → Result Effect ℕ
called seat m function.Init vs = leaves m
called seat m function.Finalize vs = Ok (record { memory = m; phase = After; request = None })
called seat m function.CommRank vs = writes m (argument vs 0) (pos seat.rank)
called seat m function.CommSize vs = writes m (argument vs 0) (pos seat.ranks)
called seat m (function.Send kind) vs = send seat m kind (argument vs 0) (argument vs 1).word (argument vs 2).word (argument vs 3).word
called seat m (function.Recv kind) vs = receive seat m kind (argument vs 0) (argument vs 1).word (argument vs 2).word (argument vs 3).word (slice_get vs 4)
called seat m (function.GetCount kind) vs = get_count m kind (argument vs 0) (argument vs 1)

-- MPI_Init stands first and once, and nothing stands after MPI_Finalize (8.7)
abbrev pub is_due : Phase → MpiFunction → Bool
is_due Before function.Init = true
is_due Before f = false
is_due Inside function.Init = false
is_due Inside f = true
is_due After f = false

abbrev pub effect : Seat → Phase → Memory → MpiFunction → List Cell → Result Effect ℕ
effect seat phase m f vs = require (is_due phase f) 117 (called seat m f vs)

-- what a call came to, with the memory after it
abbrev pub with_memory : Memory → mpi.Effect → Effect
with_memory m e = record { memory = m; phase = e.phase; request = e.request }
