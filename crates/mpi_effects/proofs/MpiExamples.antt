-- Calls of MPI, by rank 1 of 3.
use Rattle.std.proofs.Common.{◌≡◌, ℕ, ℤ, pos, negsuc, Bool, true, false, List, [], ◌∷◌, ◌++◌, map, Option, Some, None, Result, Ok, Err, refl}
use Rattle.std.specs.Int.{int_wrap}
use Rattle.c3_base.specs.declared.cell.Cell.{Cell}
use Rattle.mpi_words.specs.declared.message.Datatype.{Datatype}
use Rattle.mpi_words.specs.declared.message.Datatype.TheVariants as datatype
use Rattle.mpi_words.specs.declared.message.Message.{Message}
use Rattle.mpi_words.specs.declared.operation.Op.TheVariants as op
use Rattle.c_kernel.specs.declared.program.MpiFunction.{MpiFunction}
use Rattle.c_kernel.specs.declared.program.MpiFunction.TheVariants as function
use Rattle.mpi_effects.specs.declared.seat.Seat.{Seat}
use Rattle.mpi_effects.specs.declared.seat.Phase.{Phase}
use Rattle.mpi_effects.specs.declared.seat.Phase.TheVariants.{Before, Inside, After}
use Rattle.mpi_effects.specs.declared.requests.Receipt.{Receipt}
use Rattle.c_memory.specs.declared.spot.Spot.{Spot}
use Rattle.c_memory.specs.Memory.{Memory, number, null, pointer, spot_of}
use Rattle.mpi_effects.specs.Mpi.{Effect, effect, received}

abbrev seat : Bool → Seat
seat any = record { rank = 1; ranks = 3; any_source = any }

-- a buffer and a status. Object 3 is dead
abbrev holding : List Cell → List Cell → Memory
holding cells status = record { variables = record { serial = 1; cells = cells } ∷ record { serial = 2; cells = status } ∷ []; heap = []; next = 4; calls = 1; asked = 0 }

abbrev numbers : List ℤ → List Cell
numbers ns = map number ns

abbrev start : Memory
start = holding (numbers (pos 7 ∷ pos 300 ∷ negsuc 0 ∷ [])) (null ∷ null ∷ null ∷ null ∷ [])

abbrev buffer : Cell
buffer = pointer 1 (pos 0)

abbrev status : Cell
status = pointer 2 (pos 0)

abbrev dead : Cell
dead = pointer 3 (pos 0)

abbrev of_ints : Cell → ℤ → ℤ → ℤ → List Cell
of_ints p count rank tag = p ∷ number count ∷ number rank ∷ number tag ∷ []

-- 0 for none
abbrev fault_of : {A : Type 0} → Result A ℕ → ℕ
fault_of (Err code) = code
fault_of (Ok a) = 0

abbrev does : MpiFunction → List Cell → Result Effect ℕ
does f vs = effect (seat false) Inside start f vs

abbrev sends : Cell → ℤ → ℤ → ℤ → ℕ
sends p count to tag = fault_of (does (function.Send datatype.Int) (of_ints p count to tag))

abbrev receives : Cell → ℤ → ℤ → ℤ → ℕ
receives p count from tag = fault_of (does (function.Recv datatype.Int) (of_ints p count from tag))

abbrev receives_any : ℤ → ℕ
receives_any from = fault_of (effect (seat true) Inside start (function.Recv datatype.Int) (of_ints buffer (pos 3) from (pos 5)))

abbrev receives_into : Cell → Cell → ℕ
receives_into p s = fault_of (does (function.Recv datatype.Int) (of_ints p (pos 3) (pos 0) (pos 5) ++ s ∷ []))

-- ---- each test at its bounds

sent_counts : map (λ n. sends buffer n (pos 2) (pos 5)) (negsuc 0 ∷ pos 0 ∷ pos 3 ∷ pos 4 ∷ pos 4096 ∷ pos 4097 ∷ []) ≡ 116 ∷ 0 ∷ 0 ∷ 102 ∷ 102 ∷ 116 ∷ []
sent_counts = refl

received_counts : map (λ n. receives buffer n (pos 2) (pos 5)) (negsuc 0 ∷ pos 0 ∷ pos 3 ∷ pos 4 ∷ pos 4096 ∷ pos 4097 ∷ []) ≡ 116 ∷ 0 ∷ 0 ∷ 102 ∷ 102 ∷ 116 ∷ []
received_counts = refl

destinations : map (λ to. sends buffer (pos 3) to (pos 5)) (negsuc 2 ∷ negsuc 1 ∷ negsuc 0 ∷ pos 0 ∷ pos 2 ∷ pos 3 ∷ []) ≡ 113 ∷ 0 ∷ 113 ∷ 0 ∷ 0 ∷ 113 ∷ []
destinations = refl

-- the word for any source makes no destination
no_destination : fault_of (effect (seat true) Inside start (function.Send datatype.Int) (of_ints buffer (pos 3) (negsuc 0) (pos 5))) ≡ 113
no_destination = refl

sources : map (λ from. receives buffer (pos 3) from (pos 5)) (negsuc 2 ∷ negsuc 1 ∷ negsuc 0 ∷ pos 0 ∷ pos 2 ∷ pos 3 ∷ []) ≡ 113 ∷ 0 ∷ 113 ∷ 0 ∷ 0 ∷ 113 ∷ []
sources = refl

any_sources : map receives_any (negsuc 2 ∷ negsuc 1 ∷ negsuc 0 ∷ pos 0 ∷ pos 2 ∷ pos 3 ∷ []) ≡ 113 ∷ 0 ∷ 0 ∷ 0 ∷ 0 ∷ 113 ∷ []
any_sources = refl

sent_tags : map (sends buffer (pos 3) (pos 2)) (negsuc 1 ∷ negsuc 0 ∷ pos 0 ∷ pos 32767 ∷ pos 32768 ∷ []) ≡ 114 ∷ 114 ∷ 0 ∷ 0 ∷ 114 ∷ []
sent_tags = refl

received_tags : map (receives buffer (pos 3) (pos 2)) (negsuc 1 ∷ negsuc 0 ∷ pos 0 ∷ pos 32767 ∷ pos 32768 ∷ []) ≡ 114 ∷ 0 ∷ 0 ∷ 0 ∷ 114 ∷ []
received_tags = refl

-- to itself
sent_to_itself : sends buffer (pos 3) (pos 1) (pos 5) ≡ 0
sent_to_itself = refl

-- a buffer, one that is a cell short, NULL and a dead one
sent_buffers : map (λ p. sends p (pos 3) (pos 2) (pos 5)) (buffer ∷ pointer 1 (pos 1) ∷ pointer 1 (negsuc 0) ∷ null ∷ dead ∷ []) ≡ 0 ∷ 102 ∷ 102 ∷ 101 ∷ 103 ∷ []
sent_buffers = refl

received_buffers : map (λ p. receives p (pos 3) (pos 2) (pos 5)) (buffer ∷ pointer 1 (pos 1) ∷ pointer 1 (negsuc 0) ∷ null ∷ dead ∷ []) ≡ 0 ∷ 102 ∷ 102 ∷ 101 ∷ 103 ∷ []
received_buffers = refl

-- no elements have no buffer
nothing_sent : map (λ p. sends p (pos 0) (pos 2) (pos 5)) (pointer 1 (pos 4) ∷ null ∷ dead ∷ []) ≡ 0 ∷ 0 ∷ 0 ∷ []
nothing_sent = refl

statuses : map (receives_into buffer) (status ∷ pointer 2 (pos 1) ∷ pointer 1 (pos 0) ∷ null ∷ dead ∷ []) ≡ 0 ∷ 102 ∷ 102 ∷ 101 ∷ 103 ∷ []
statuses = refl

-- ---- two tests that both fail

count_first : sends buffer (negsuc 0) (pos 3) (pos 5) ∷ receives buffer (pos 4097) (pos 3) (pos 5) ∷ [] ≡ 116 ∷ 116 ∷ []
count_first = refl

rank_before_tag : sends buffer (pos 3) (pos 3) (negsuc 0) ∷ receives buffer (pos 3) (negsuc 0) (negsuc 1) ∷ [] ≡ 113 ∷ 113 ∷ []
rank_before_tag = refl

tag_before_buffer : sends null (pos 3) (pos 2) (negsuc 0) ∷ receives dead (pos 3) (pos 2) (negsuc 1) ∷ [] ≡ 114 ∷ 114 ∷ []
tag_before_buffer = refl

buffer_before_status : receives_into dead (pointer 2 (pos 1)) ∷ receives_into (pointer 1 (pos 1)) null ∷ [] ≡ 103 ∷ 102 ∷ []
buffer_before_status = refl

-- ---- phases

abbrev in_phase : Phase → List ℕ
in_phase phase = map (λ f. fault_of (effect (seat false) phase start f (of_ints buffer (pos 3) (pos 2) (pos 5)))) (function.Init ∷ function.Finalize ∷ function.CommRank ∷ function.CommSize ∷ function.Send datatype.Int ∷ function.Recv datatype.Int ∷ [])

before : in_phase Before ≡ 0 ∷ 117 ∷ 117 ∷ 117 ∷ 117 ∷ 117 ∷ []
before = refl

inside : in_phase Inside ≡ 117 ∷ 0 ∷ 0 ∷ 0 ∷ 0 ∷ 0 ∷ []
inside = refl

after : in_phase After ≡ 117 ∷ 117 ∷ 117 ∷ 117 ∷ 117 ∷ 117 ∷ []
after = refl

-- before any other test
no_phase : fault_of (effect (seat false) After start (function.Send datatype.Int) (of_ints null (negsuc 0) (pos 3) (negsuc 0))) ∷ fault_of (effect (seat false) Before start (function.GetCount datatype.Int) (null ∷ null ∷ [])) ∷ [] ≡ 117 ∷ 117 ∷ []
no_phase = refl

begun : effect (seat false) Before start function.Init [] ≡ Ok (record { memory = start; phase = Inside; request = None })
begun = refl

finished : does function.Finalize [] ≡ Ok (record { memory = start; phase = After; request = None })
finished = refl

-- ---- the rank and how many there are

abbrev leaves : List Cell → List Cell → Result Effect ℕ
leaves cells old = Ok (record { memory = holding cells old; phase = Inside; request = None })

abbrev nulls : List Cell
nulls = null ∷ null ∷ null ∷ null ∷ []

rank : does function.CommRank (pointer 1 (pos 2) ∷ []) ≡ leaves (numbers (pos 7 ∷ pos 300 ∷ pos 1 ∷ [])) nulls
rank = refl

size : does function.CommSize (buffer ∷ []) ≡ leaves (numbers (pos 3 ∷ pos 300 ∷ negsuc 0 ∷ [])) nulls
size = refl

ranks_nowhere : map (λ p. fault_of (does function.CommRank (p ∷ []))) (pointer 1 (pos 3) ∷ null ∷ dead ∷ []) ≡ 102 ∷ 101 ∷ 103 ∷ []
ranks_nowhere = refl

-- ---- what is asked for

-- the elements are chars
message : does (function.Send datatype.Char) (of_ints buffer (pos 3) (pos 0) (pos 9)) ≡ Ok (record {
  memory = start;
  phase = Inside;
  request = Some (record { operation = op.Send 0 (record { context = 0; tag = pos 9; kind = datatype.Char; items = pos 7 ∷ pos 44 ∷ negsuc 0 ∷ [] }); receipt = None });
})
unfolding int_wrap
message = refl

awaited : does (function.Recv datatype.Long) (of_ints (pointer 1 (pos 1)) (pos 2) (pos 2) (negsuc 0) ++ status ∷ []) ≡ Ok (record {
  memory = start;
  phase = Inside;
  request = Some (record {
    operation = op.Receive (record { source = Some 2; context = 0; tag = None } ∷ []);
    receipt = Some (record { buffer = record { serial = 1; place = pos 1 }; count = 2; kind = datatype.Long; status = Some (record { serial = 2; place = pos 0 }) });
  });
})
awaited = refl

awaited_from_any : effect (seat true) Inside start (function.Recv datatype.Int) (of_ints buffer (pos 0) (negsuc 0) (pos 0)) ≡ Ok (record {
  memory = start;
  phase = Inside;
  request = Some (record {
    operation = op.Receive (record { source = None; context = 0; tag = Some (pos 0) } ∷ []);
    receipt = Some (record { buffer = record { serial = 1; place = pos 0 }; count = 0; kind = datatype.Int; status = None });
  });
})
awaited_from_any = refl

-- ---- MPI_PROC_NULL, where the buffer isn't tested

to_nobody : does (function.Send datatype.Int) (of_ints null (pos 3) (negsuc 1) (pos 5)) ≡ leaves (numbers (pos 7 ∷ pos 300 ∷ negsuc 0 ∷ [])) nulls
to_nobody = refl

from_nobody : does (function.Recv datatype.Int) (of_ints dead (pos 3) (negsuc 1) (pos 5) ++ status ∷ []) ≡ leaves (numbers (pos 7 ∷ pos 300 ∷ negsuc 0 ∷ [])) (numbers (negsuc 1 ∷ negsuc 0 ∷ pos 0 ∷ pos 0 ∷ []))
from_nobody = refl

ignored_from_nobody : does (function.Recv datatype.Int) (of_ints buffer (pos 3) (negsuc 1) (pos 5)) ≡ leaves (numbers (pos 7 ∷ pos 300 ∷ negsuc 0 ∷ [])) nulls
ignored_from_nobody = refl

nobody_tested : fault_of (does (function.Recv datatype.Int) (of_ints buffer (pos 4097) (negsuc 1) (pos 5))) ∷ fault_of (does (function.Send datatype.Int) (of_ints buffer (pos 3) (negsuc 1) (negsuc 0))) ∷ fault_of (does (function.Recv datatype.Int) (of_ints buffer (pos 3) (negsuc 1) (pos 5) ++ pointer 2 (pos 1) ∷ [])) ∷ [] ≡ 116 ∷ 114 ∷ 102 ∷ []
nobody_tested = refl

-- ---- a message comes

abbrev receipt : Cell → ℕ → Option Spot → Receipt
receipt p count s = record { buffer = spot_of p; count = count; kind = datatype.Int; status = s }

abbrev got : Datatype → List ℤ → Message
got kind items = record { context = 0; tag = pos 6; kind = kind; items = items }

-- its source, tag, count and kind
taken : received (receipt buffer 3 (Some (spot_of status))) start 2 (got datatype.Int (pos 1 ∷ pos 2 ∷ pos 3 ∷ [])) ≡ Ok (holding (numbers (pos 1 ∷ pos 2 ∷ pos 3 ∷ [])) (numbers (pos 2 ∷ pos 6 ∷ pos 3 ∷ pos 2 ∷ [])))
taken = refl

-- a message that is shorter than the count leaves the other elements
shorter : received (receipt buffer 3 (Some (spot_of status))) start 0 (got datatype.Int (pos 1 ∷ [])) ≡ Ok (holding (numbers (pos 1 ∷ pos 300 ∷ negsuc 0 ∷ [])) (numbers (pos 0 ∷ pos 6 ∷ pos 1 ∷ pos 2 ∷ [])))
shorter = refl

ignored : received (receipt (pointer 1 (pos 1)) 2 None) start 0 (got datatype.Int (pos 1 ∷ pos 2 ∷ [])) ≡ Ok (holding (numbers (pos 7 ∷ pos 1 ∷ pos 2 ∷ [])) nulls)
ignored = refl

-- a status among the elements is what stays
overlapping : received (receipt (pointer 2 (pos 0)) 2 (Some (spot_of status))) start 0 (got datatype.Int (pos 41 ∷ pos 42 ∷ [])) ≡ Ok (holding (numbers (pos 7 ∷ pos 300 ∷ negsuc 0 ∷ [])) (numbers (pos 0 ∷ pos 6 ∷ pos 2 ∷ pos 2 ∷ [])))
overlapping = refl

too_long : fault_of (received (receipt buffer 1 None) start 0 (got datatype.Int (pos 1 ∷ pos 2 ∷ []))) ≡ 111
too_long = refl

other_type : fault_of (received (receipt buffer 3 None) start 0 (got datatype.Char [])) ≡ 112
other_type = refl

type_before_length : fault_of (received (receipt buffer 1 None) start 0 (got datatype.Long (pos 1 ∷ pos 2 ∷ []))) ≡ 112
type_before_length = refl

-- ---- MPI_Get_count

-- a status with a count of 3 and this kind
abbrev with_kind : ℤ → Memory
with_kind kind = holding (null ∷ []) (numbers (pos 2 ∷ pos 6 ∷ pos 3 ∷ kind ∷ []))

abbrev counts : ℤ → Result Effect ℕ
counts kind = effect (seat false) Inside (with_kind kind) (function.GetCount datatype.Int) (status ∷ buffer ∷ [])

counted : counts (pos 2) ≡ leaves (numbers (pos 3 ∷ [])) (numbers (pos 2 ∷ pos 6 ∷ pos 3 ∷ pos 2 ∷ []))
unfolding int_wrap
counted = refl

-- kind 0 is none
counted_by_any : counts (pos 0) ≡ leaves (numbers (pos 3 ∷ [])) (numbers (pos 2 ∷ pos 6 ∷ pos 3 ∷ pos 0 ∷ []))
unfolding int_wrap
counted_by_any = refl

other_kinds : map (λ kind. fault_of (counts kind)) (pos 1 ∷ pos 3 ∷ negsuc 0 ∷ []) ≡ 112 ∷ 112 ∷ 112 ∷ []
unfolding int_wrap
other_kinds = refl

-- a status, then the result, then the kind
count_faults : map (λ vs. fault_of (effect (seat false) Inside (with_kind (pos 1)) (function.GetCount datatype.Int) vs)) ((pointer 2 (pos 1) ∷ null ∷ []) ∷ (status ∷ null ∷ []) ∷ (status ∷ pointer 1 (pos 1) ∷ []) ∷ (null ∷ buffer ∷ []) ∷ []) ≡ 102 ∷ 101 ∷ 102 ∷ 101 ∷ []
unfolding int_wrap
count_faults = refl
