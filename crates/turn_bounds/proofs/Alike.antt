-- What leaves the next serial, and the number of cells that malloc was asked for, as they are.
use Rattle.std.proofs.Common.{◌≡◌, ℕ, suc, ◌+◌, ◌≤◌, pos, Bool, true, false, if◌then◌else◌, List, [], ◌∷◌, length, map, Option, Some, None, Result, Ok, Err, refl, ◌∙◌, arith}
use Rattle.std.specs.Prelude.{ℤ, ◌+ℤ◌, ◌-ℤ◌, ◌||◌, nat_lt, nat_eq, not, option_map, unsigned_abs, slice_get}
use Rattle.std.proofs.lemmas.Bool.Decides.{nat_tests}
use Rattle.c3_base.specs.declared.cell.Cell.{Cell}
use Rattle.mpi_words.specs.declared.message.Datatype.{Datatype}
use Rattle.mpi_words.specs.declared.message.Message.{Message}
use Rattle.c_kernel.specs.declared.program.MpiFunction.{MpiFunction}
use Rattle.c_kernel.specs.declared.program.MpiFunction.TheVariants as function
use Rattle.c_memory.specs.declared.spot.Spot.{Spot}
use Rattle.c_memory.specs.Memory.{Memory, number, spot_of, load, load_all, find_object, put_by, put, put_all, map_ok, store, add_variable, add_variables, total, used, enter, with_arguments, is_start, frees, free}
use Rattle.c_values.specs.Value.{then_with, is_zero}
use Rattle.mpi_effects.specs.declared.seat.Seat.{Seat}
use Rattle.mpi_effects.specs.declared.seat.Phase.{Phase}
use Rattle.mpi_effects.specs.declared.requests.Receipt.{Receipt}
use Rattle.mpi_effects.specs.Mpi.{Effect, is_count, is_destination, is_tag, is_any, is_source, is_proc_null, require, leaves, writes, send, put_status, tested_status, no_message, waits, receive, received, get_count, same_datatype, status_cells, code_of, status_word, argument, called, is_due, effect}
use Rattle.turn_bounds.specs.Spaced.{HaveCells}

abbrev pub Alike : Memory → Memory → Type 0
Alike m n = (n.next ≡ m.next) × (n.asked ≡ m.asked)

abbrev pub AlikeOk : Memory → Result Memory ℕ → Type 0
AlikeOk m (Err code) = Unit {0}
AlikeOk m (Ok n) = Alike m n

abbrev pub AlikeEffect : Memory → Result Effect ℕ → Type 0
AlikeEffect m (Err code) = Unit {0}
AlikeEffect m (Ok e) = Alike m e.memory

pub alike_on : (l m n : Memory) → Alike l m → Alike m n → Alike l n
alike_on l m n h k = (k.0 ∙ h.0, k.1 ∙ h.1)

-- ---- cells that are put

put_by_alike : (m : Memory) (p : Spot) (c : Cell) (found : Option (List Cell)) → Alike m (put_by m p c found)
put_by_alike m p c None = (refl, refl)
put_by_alike m p c (Some cells) = (refl, refl)

put_alike : (m : Memory) (p : Spot) (c : Cell) → Alike m (put m p c)
put_alike m p c = put_by_alike m p c (find_object m.variables p.serial)

put_all_alike : (m : Memory) (p : Spot) (cs : List Cell) → Alike m (put_all m p cs)
put_all_alike m p [] = (refl, refl)
put_all_alike m p (c ∷ cs) = alike_on m (put m p c) (put_all (put m p c) (record { serial = p.serial; place = p.place +ℤ pos 1 }) cs) (put_alike m p c) (put_all_alike (put m p c) (record { serial = p.serial; place = p.place +ℤ pos 1 }) cs)

pub arguments_alike : (m : Memory) (serial : ℕ) (vs : List Cell) → Alike m (with_arguments m serial vs)
arguments_alike m serial [] = (refl, refl)
arguments_alike m serial (v ∷ vs) =
    let n = put m (record { serial = serial; place = pos 0 }) v in
    alike_on m n (with_arguments n (suc serial) vs) (put_alike m (record { serial = serial; place = pos 0 }) v) (arguments_alike n (suc serial) vs)

store_by : (m : Memory) (p : Spot) (c : Cell) (r : Result Cell ℕ) → AlikeOk m (map_ok (λ old. put m p c) r)
store_by m p c (Err code) = tt
store_by m p c (Ok old) = put_alike m p c

pub store_alike : (m : Memory) (p : Spot) (c : Cell) → AlikeOk m (store m p c)
store_alike m p c = store_by m p c (load m p)

-- ---- free

frees_alike : (m : Memory) (serial : ℕ) (variable object : Option (List Cell)) (start : Bool) → AlikeOk m (frees m serial variable object start)
frees_alike m serial None None start = tt
frees_alike m serial (Some cells) other start = tt
frees_alike m serial None (Some cells) false = tt
frees_alike m serial None (Some cells) true = (refl, refl)

free_by : (m : Memory) (p : Cell) (t : Bool) → AlikeOk m (if t then Ok m else frees m p.serial (find_object m.variables p.serial) (find_object m.heap p.serial) (is_start p.word))
free_by m p true = (refl, refl)
free_by m p false = frees_alike m p.serial (find_object m.variables p.serial) (find_object m.heap p.serial) (is_start p.word)

pub free_alike : (m : Memory) (p : Cell) → AlikeOk m (free m p)
free_alike m p = free_by m p (nat_eq p.serial 0)

-- ---- calls

added : (m : Memory) (ns : List ℕ) → ((add_variables m ns).next ≡ m.next + length ns) × ((add_variables m ns).asked ≡ m.asked)
added m [] = (omega arith, refl)
added m (n ∷ ns) =
    let r = added (add_variable m n) ns in
    let e = r.0 in
    (omega (arith, e), r.1)

long : (ns : List ℕ) → HaveCells ns → length ns ≤ total ns
long [] h = omega arith
long (n ∷ ns) h =
    let one = h.0 in
    let r = long ns h.1 in
    omega (arith, one, r)

-- a call asks malloc for nothing
abbrev pub AskedOk : Memory → Result Memory ℕ → Type 0
AskedOk m (Err code) = Unit {0}
AskedOk m (Ok n) = n.asked ≡ m.asked

asked_by : (m : Memory) (ns : List ℕ) (t : Bool) → AskedOk m (if t then Err 108 else Ok (add_variables (record m { calls = m.calls + 1 }) ns))
asked_by m ns true = tt
asked_by m ns false = (added (record m { calls = m.calls + 1 }) ns).1

pub entered_asked : (m : Memory) (ns : List ℕ) → AskedOk m (enter m ns)
entered_asked m ns = asked_by m ns (nat_lt 8192 (used m + 1 + total ns))

-- and takes at most 8,191 serials
abbrev pub EnteredOk : Memory → Result Memory ℕ → Type 0
EnteredOk m (Err code) = Unit {0}
EnteredOk m (Ok n) = (n.next ≤ m.next + 8191) × (n.asked ≡ m.asked)

entered_by : (m : Memory) (ns : List ℕ) (t : Bool) → nat_lt 8192 (used m + 1 + total ns) ≡ t → HaveCells ns → EnteredOk m (if t then Err 108 else Ok (add_variables (record m { calls = m.calls + 1 }) ns))
entered_by m ns true e h = tt
entered_by m ns false e h =
    let few : used m + 1 + total ns ≤ 8192 = grind (arith, nat_tests, e) in
    let l = long ns h in
    let a = added (record m { calls = m.calls + 1 }) ns in
    let n = a.0 in
    (omega (arith, few, l, n), a.1)

pub entered : (m : Memory) (ns : List ℕ) → HaveCells ns → EnteredOk m (enter m ns)
entered m ns h = entered_by m ns (nat_lt 8192 (used m + 1 + total ns)) refl h

-- ---- messages

put_status_alike : (m n : Memory) (status : Option Spot) (cells : List Cell) → Alike m n → Alike m (put_status n status cells)
put_status_alike m n None cells h = h
put_status_alike m n (Some p) cells h = alike_on m n (put_all n p cells) h (put_all_alike n p cells)

require_ok : (m : Memory) (b : Bool) (code : ℕ) (r : Result Memory ℕ) → AlikeOk m r → AlikeOk m (require b code r)
require_ok m false code r h = tt
require_ok m true code r h = h

pub received_alike : (r : Receipt) (m : Memory) (source : ℕ) (got : Message) → AlikeOk m (received r m source got)
received_alike r m source got =
    let cells = status_cells (pos source) got.tag (length got.items) (code_of got.kind) in
    let done = put_all m r.buffer (map number got.items) in
    require_ok m (same_datatype got.kind r.kind) 112 (require (not (nat_lt r.count (length got.items))) 111 (Ok (put_status done r.status cells))) (
    require_ok m (not (nat_lt r.count (length got.items))) 111 (Ok (put_status done r.status cells)) (
    put_status_alike m done r.status cells (put_all_alike m r.buffer (map number got.items))))

-- ---- calls of MPI

require_effect : (m : Memory) (b : Bool) (code : ℕ) (r : Result Effect ℕ) → AlikeEffect m r → AlikeEffect m (require b code r)
require_effect m false code r h = tt
require_effect m true code r h = h

if_effect : (m : Memory) (b : Bool) (x y : Result Effect ℕ) → AlikeEffect m x → AlikeEffect m y → AlikeEffect m (if b then x else y)
if_effect m true x y h k = h
if_effect m false x y h k = k

then_effect : {A : Type 0} (m : Memory) (r : Result A ℕ) (f : A → Result Effect ℕ) → ((a : A) → AlikeEffect m (f a)) → AlikeEffect m (then_with r f)
then_effect m (Err code) f h = tt
then_effect m (Ok a) f h = h a

leaves_stored : (m : Memory) (r : Result Memory ℕ) → AlikeOk m r → AlikeEffect m (then_with r leaves)
leaves_stored m (Err code) h = tt
leaves_stored m (Ok n) h = h

writes_alike : (m : Memory) (p : Cell) (n : ℤ) → AlikeEffect m (writes m p n)
writes_alike m p n = leaves_stored m (store m (spot_of p) (number n)) (store_alike m (spot_of p) (number n))

send_alike : (seat : Seat) (m : Memory) (kind : Datatype) (buffer : Cell) (count to tag : ℤ) → AlikeEffect m (send seat m kind buffer count to tag)
send_alike seat m kind buffer count to tag =
    require_effect m (is_count count) 116 _ (
    require_effect m (is_destination seat to) 113 _ (
    require_effect m (is_tag tag) 114 _ (
    if_effect m (is_proc_null to) _ _ (refl, refl) (
    then_effect m (load_all m (spot_of buffer) (unsigned_abs count)) _ (λ cells. (refl, refl))))))

no_message_alike : (m : Memory) (status : Option Spot) → AlikeEffect m (no_message m status)
no_message_alike m status = then_effect m (tested_status m status) _ (λ old. put_status_alike m m status _ (refl, refl))

waits_alike : (m : Memory) (kind : Datatype) (buffer : Spot) (count : ℕ) (from tag : ℤ) (status : Option Spot) → AlikeEffect m (waits m kind buffer count from tag status)
waits_alike m kind buffer count from tag status =
    then_effect m (load_all m buffer count) _ (λ old. then_effect m (tested_status m status) _ (λ older. (refl, refl)))

receive_alike : (seat : Seat) (m : Memory) (kind : Datatype) (buffer : Cell) (count from tag : ℤ) (status : Option Cell) → AlikeEffect m (receive seat m kind buffer count from tag status)
receive_alike seat m kind buffer count from tag status =
    require_effect m (is_count count) 116 _ (
    require_effect m (is_source seat from) 113 _ (
    require_effect m (is_tag tag || is_any tag) 114 _ (
    if_effect m (is_proc_null from) _ _ (no_message_alike m (option_map spot_of status)) (waits_alike m kind (spot_of buffer) (unsigned_abs count) from tag (option_map spot_of status)))))

get_count_alike : (m : Memory) (kind : Datatype) (status p : Cell) → AlikeEffect m (get_count m kind status p)
get_count_alike m kind status p =
    then_effect m (load_all m (spot_of status) 4) _ (λ cells.
    then_effect m (load m (spot_of p)) _ (λ old.
    require_effect m (is_zero (status_word cells 3) || is_zero (status_word cells 3 -ℤ pos (code_of kind))) 112 (leaves (put m (spot_of p) (number (status_word cells 2)))) (put_alike m (spot_of p) (number (status_word cells 2)))))

called_alike : (seat : Seat) (m : Memory) (f : MpiFunction) (vs : List Cell) → AlikeEffect m (called seat m f vs)
called_alike seat m function.Init vs = (refl, refl)
called_alike seat m function.Finalize vs = (refl, refl)
called_alike seat m function.CommRank vs = writes_alike m (argument vs 0) (pos seat.rank)
called_alike seat m function.CommSize vs = writes_alike m (argument vs 0) (pos seat.ranks)
called_alike seat m (function.Send kind) vs = send_alike seat m kind (argument vs 0) (argument vs 1).word (argument vs 2).word (argument vs 3).word
called_alike seat m (function.Recv kind) vs = receive_alike seat m kind (argument vs 0) (argument vs 1).word (argument vs 2).word (argument vs 3).word (slice_get vs 4)
called_alike seat m (function.GetCount kind) vs = get_count_alike m kind (argument vs 0) (argument vs 1)

pub effect_alike : (seat : Seat) (phase : Phase) (m : Memory) (f : MpiFunction) (vs : List Cell) → AlikeEffect m (effect seat phase m f vs)
effect_alike seat phase m f vs = require_effect m (is_due phase f) 117 (called seat m f vs) (called_alike seat m f vs)
