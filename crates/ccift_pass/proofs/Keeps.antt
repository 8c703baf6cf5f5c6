-- What is done to memory within a call keeps the variables' serials and lengths.
use Rattle.std.proofs.Common.{◌≡◌, ℕ, suc, List, [], ◌∷◌, map, length, replicate, Option, Some, None, Bool, true, false, Result, Ok, Err, refl, ap, ◌∙◌}
use Rattle.std.specs.Prelude.{ℤ, pos, negsuc, ◌+ℤ◌, ◌||◌, not, nat_eq, nat_lt, if◌then◌else◌, slice_get, unsigned_abs, option_map, ◌-ℤ◌}
use Rattle.std.proofs.lemmas.List.{length-replicate, length-set}
use Rattle.c3_base.specs.declared.cell.Cell.{Cell}
use Rattle.mpi_words.specs.declared.message.Message.{Message}
use Rattle.mpi_words.specs.declared.message.Datatype.{Datatype}
use Rattle.c_kernel.specs.declared.program.MpiFunction.{MpiFunction}
use Rattle.c_kernel.specs.declared.program.MpiFunction.TheVariants as function
use Rattle.c_memory.specs.declared.spot.Spot.{Spot}
use Rattle.mpi_effects.specs.declared.seat.Seat.{Seat}
use Rattle.mpi_effects.specs.declared.seat.Phase.{Phase}
use Rattle.mpi_effects.specs.declared.requests.Receipt.{Receipt}
use Rattle.c_memory.specs.Memory.{Memory, Object, null, number, pointer, spot_of, find_object, with_cell, put_cell, put_by, put, put_all, store, load, load_all, zero_object, zeroed, map_ok, with_arguments, grant, refuse, is_refused, malloc, is_start, frees, free}
use Rattle.c_values.specs.Value.{then_with, is_zero}
use Rattle.mpi_effects.specs.Mpi.{Effect, require, leaves, requests, send, is_count, is_destination, is_tag, is_any, is_source, is_proc_null, sending, status_cells, tested_status, put_status, no_message, waits, same_datatype, code_of, received, status_word, get_count, argument, called, is_due, effect}

-- an object's serial, and its length
pub record Extent : Type 0 where
  pub serial : ℕ
  pub length : ℕ

abbrev pub extent : Object → Extent
extent o = record { serial = o.serial; length = length o.cells }

abbrev pub extents : List Object → List Extent
extents os = map extent os

pub record Keeps (m n : Memory) : Type 0 where
  pub extents : extents n.variables ≡ extents m.variables
  pub calls : n.calls ≡ m.calls

pub kept : (m : Memory) → Keeps m m
kept m = record { extents = refl; calls = refl }

pub kept_on : (m n k : Memory) → Keeps m n → Keeps n k → Keeps m k
kept_on m n k a b = record { extents = b.extents ∙ a.extents; calls = b.calls ∙ a.calls }

-- ---- cells that are put

length_with : (cells : List Cell) (z : ℤ) (c : Cell) → length (with_cell cells z c) ≡ length cells
length_with cells (pos n) c = length-set cells n c
length_with cells (negsuc n) c = refl

one_put : (o : Object) (os : List Object) (p : Spot) (c : Cell) (t : Bool) → extents (put_cell os p c) ≡ extents os → extents (if t then record { serial = o.serial; cells = with_cell o.cells p.place c } ∷ os else o ∷ put_cell os p c) ≡ extents (o ∷ os)
one_put o os p c true h = ap (λ n. record { serial = o.serial; length = n } ∷ extents os) (length_with o.cells p.place c)
one_put o os p c false h = ap (λ l. extent o ∷ l) h

put_extents : (os : List Object) (p : Spot) (c : Cell) → extents (put_cell os p c) ≡ extents os
put_extents [] p c = refl
put_extents (o ∷ os) p c = one_put o os p c (nat_eq o.serial p.serial) (put_extents os p c)

keeps_put_by : (m : Memory) (p : Spot) (c : Cell) (o : Option (List Cell)) → Keeps m (put_by m p c o)
keeps_put_by m p c None = record { extents = refl; calls = refl }
keeps_put_by m p c (Some cells) = record { extents = put_extents m.variables p c; calls = refl }

pub keeps_put : (m : Memory) (p : Spot) (c : Cell) → Keeps m (put m p c)
keeps_put m p c = keeps_put_by m p c (find_object m.variables p.serial)

pub keeps_put_all : (m : Memory) (p : Spot) (cs : List Cell) → Keeps m (put_all m p cs)
keeps_put_all m p [] = kept m
keeps_put_all m p (c ∷ cs) =
    let next : Spot = record { serial = p.serial; place = p.place +ℤ pos 1 } in
    kept_on m (put m p c) (put_all (put m p c) next cs) (keeps_put m p c) (keeps_put_all (put m p c) next cs)

pub keeps_arguments : (m : Memory) (serial : ℕ) (vs : List Cell) → Keeps m (with_arguments m serial vs)
keeps_arguments m serial [] = kept m
keeps_arguments m serial (v ∷ vs) =
    let n = put m (record { serial = serial; place = pos 0 }) v in
    kept_on m n (with_arguments n (suc serial) vs) (keeps_put m _ v) (keeps_arguments n (suc serial) vs)

-- ---- a variable that is zeroed

one_zero : (o : Object) (os : List Object) (serial : ℕ) (t : Bool) → extents (zero_object os serial) ≡ extents os → extents (if t then record { serial = o.serial; cells = replicate (length o.cells) null } ∷ os else o ∷ zero_object os serial) ≡ extents (o ∷ os)
one_zero o os serial true h = ap (λ n. record { serial = o.serial; length = n } ∷ extents os) (length-replicate (length o.cells) null)
one_zero o os serial false h = ap (λ l. extent o ∷ l) h

zero_extents : (os : List Object) (serial : ℕ) → extents (zero_object os serial) ≡ extents os
zero_extents [] serial = refl
zero_extents (o ∷ os) serial = one_zero o os serial (nat_eq o.serial serial) (zero_extents os serial)

pub keeps_zeroed : (m : Memory) (serial : ℕ) → Keeps m (zeroed m serial)
keeps_zeroed m serial = record { extents = zero_extents m.variables serial; calls = refl }

-- ---- answers

-- an answer that is a memory keeps
abbrev pub KeepsOk : Memory → Result Memory ℕ → Type 0
KeepsOk m (Err code) = Unit {0}
KeepsOk m (Ok n) = Keeps m n

keeps_map : (m : Memory) (p : Spot) (c : Cell) (r : Result Cell ℕ) → KeepsOk m (map_ok (λ old. put m p c) r)
keeps_map m p c (Err code) = tt
keeps_map m p c (Ok old) = keeps_put m p c

pub keeps_store : (m : Memory) (p : Spot) (c : Cell) → KeepsOk m (store m p c)
keeps_store m p c = keeps_map m p c (load m p)

keeps_if : (m : Memory) (t : Bool) (a b : Result Memory ℕ) → KeepsOk m a → KeepsOk m b → KeepsOk m (if t then a else b)
keeps_if m true a b h k = h
keeps_if m false a b h k = k

keeps_required : (m : Memory) (t : Bool) (code : ℕ) (r : Result Memory ℕ) → KeepsOk m r → KeepsOk m (require t code r)
keeps_required m true code r h = h
keeps_required m false code r h = tt

-- ---- the heap

abbrev given : Memory → ℕ → Cell → Bool → Memory × Cell
given m n c t = if t then (refuse m n, null) else (grant m n, c)

keeps_given : (m : Memory) (n : ℕ) (c : Cell) (t : Bool) → Keeps m (given m n c t).0
keeps_given m n c true = record { extents = refl; calls = refl }
keeps_given m n c false = record { extents = refl; calls = refl }

pub keeps_malloc : (refuses : Memory → ℕ → Bool) (m : Memory) (asked : Option ℕ) → Keeps m (malloc refuses m asked).0
keeps_malloc refuses m None = kept m
keeps_malloc refuses m (Some n) = keeps_given m n (pointer m.next (pos 0)) (is_refused refuses m n)

keeps_frees : (m : Memory) (serial : ℕ) (a b : Option (List Cell)) (start : Bool) → KeepsOk m (frees m serial a b start)
keeps_frees m serial None None start = tt
keeps_frees m serial (Some cells) b start = tt
keeps_frees m serial None (Some cells) false = tt
keeps_frees m serial None (Some cells) true = record { extents = refl; calls = refl }

pub keeps_free : (m : Memory) (p : Cell) → KeepsOk m (free m p)
keeps_free m p = keeps_if m (nat_eq p.serial 0) _ _ (kept m) (keeps_frees m p.serial (find_object m.variables p.serial) (find_object m.heap p.serial) (is_start p.word))

-- ---- messages

keeps_status : (m : Memory) (p : Option Spot) (cells : List Cell) → Keeps m (put_status m p cells)
keeps_status m None cells = kept m
keeps_status m (Some p) cells = keeps_put_all m p cells

pub keeps_received : (r : Receipt) (m : Memory) (source : ℕ) (got : Message) → KeepsOk m (received r m source got)
keeps_received r m source got =
    let n = put_all m r.buffer (map number got.items) in
    let cells = status_cells (pos source) got.tag (length got.items) (code_of got.kind) in
    keeps_required m (same_datatype got.kind r.kind) 112 _ (
    keeps_required m (not (nat_lt r.count (length got.items))) 111 (Ok (put_status n r.status cells))
    (kept_on m n (put_status n r.status cells) (keeps_put_all m r.buffer (map number got.items)) (keeps_status n r.status cells)))

abbrev pub EffectKeeps : Memory → Result Effect ℕ → Type 0
EffectKeeps m (Err code) = Unit {0}
EffectKeeps m (Ok e) = Keeps m e.memory

effect_if : (m : Memory) (t : Bool) (a b : Result Effect ℕ) → EffectKeeps m a → EffectKeeps m b → EffectKeeps m (if t then a else b)
effect_if m true a b h k = h
effect_if m false a b h k = k

effect_required : (m : Memory) (t : Bool) (code : ℕ) (r : Result Effect ℕ) → EffectKeeps m r → EffectKeeps m (require t code r)
effect_required m true code r h = h
effect_required m false code r h = tt

effect_with : (m : Memory) {A : Type 0} (r : Result A ℕ) (f : A → Result Effect ℕ) → ((a : A) → EffectKeeps m (f a)) → EffectKeeps m (then_with r f)
effect_with m (Err code) f h = tt
effect_with m (Ok a) f h = h a

effect_left : (m : Memory) (r : Result Memory ℕ) → KeepsOk m r → EffectKeeps m (then_with r leaves)
effect_left m (Err code) h = tt
effect_left m (Ok n) h = h

effect_sent : (seat : Seat) (m : Memory) (kind : Datatype) (buffer : Cell) (count to tag : ℤ) → EffectKeeps m (send seat m kind buffer count to tag)
effect_sent seat m kind buffer count to tag =
    effect_required m (is_count count) 116 _ (
    effect_required m (is_destination seat to) 113 _ (
    effect_required m (is_tag tag) 114 _ (
    effect_if m (is_proc_null to) (leaves m) _ (kept m)
    (effect_with m (load_all m (spot_of buffer) (unsigned_abs count)) (λ cells. requests m (sending kind to tag cells)) (λ cells. kept m)))))

effect_received : (seat : Seat) (m : Memory) (kind : Datatype) (buffer : Cell) (count from tag : ℤ) (status : Option Spot) → EffectKeeps m (require (is_count count) 116 (
    require (is_source seat from) 113 (
    require (is_tag tag || is_any tag) 114 (
    if is_proc_null from then no_message m status
    else waits m kind (spot_of buffer) (unsigned_abs count) from tag status))))
effect_received seat m kind buffer count from tag status =
    effect_required m (is_count count) 116 _ (
    effect_required m (is_source seat from) 113 _ (
    effect_required m (is_tag tag || is_any tag) 114 _ (
    effect_if m (is_proc_null from) (no_message m status) (waits m kind (spot_of buffer) (unsigned_abs count) from tag status)
    (effect_with m (tested_status m status) _ (λ old. keeps_status m status (status_cells (negsuc 1) (negsuc 0) 0 0)))
    (effect_with m (load_all m (spot_of buffer) (unsigned_abs count)) _ (λ old. effect_with m (tested_status m status) _ (λ older. kept m))))))

effect_counted : (m : Memory) (kind : Datatype) (status p : Cell) → EffectKeeps m (get_count m kind status p)
effect_counted m kind status p =
    effect_with m (load_all m (spot_of status) 4) _ (λ cells.
    effect_with m (load m (spot_of p)) _ (λ old.
    effect_required m (is_zero (status_word cells 3) || is_zero (status_word cells 3 -ℤ pos (code_of kind))) 112 _
    (keeps_put m (spot_of p) (number (status_word cells 2)))))

effect_called : (seat : Seat) (m : Memory) (f : MpiFunction) (vs : List Cell) → EffectKeeps m (called seat m f vs)
effect_called seat m function.Init vs = kept m
effect_called seat m function.Finalize vs = kept m
effect_called seat m function.CommRank vs = effect_left m (store m (spot_of (argument vs 0)) (number (pos seat.rank))) (keeps_store m _ _)
effect_called seat m function.CommSize vs = effect_left m (store m (spot_of (argument vs 0)) (number (pos seat.ranks))) (keeps_store m _ _)
effect_called seat m (function.Send kind) vs = effect_sent seat m kind (argument vs 0) (argument vs 1).word (argument vs 2).word (argument vs 3).word
effect_called seat m (function.Recv kind) vs = effect_received seat m kind (argument vs 0) (argument vs 1).word (argument vs 2).word (argument vs 3).word (option_map spot_of (slice_get vs 4))
effect_called seat m (function.GetCount kind) vs = effect_counted m kind (argument vs 0) (argument vs 1)

pub keeps_effect : (seat : Seat) (phase : Phase) (m : Memory) (f : MpiFunction) (vs : List Cell) → EffectKeeps m (effect seat phase m f vs)
keeps_effect seat phase m f vs = effect_required m (is_due phase f) 117 (called seat m f vs) (effect_called seat m f vs)
