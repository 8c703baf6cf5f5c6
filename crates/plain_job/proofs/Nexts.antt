-- What leaves the next serial as it is, and what takes serials.
use Rattle.std.proofs.Common.{◌≡◌, ℕ, suc, ◌+◌, ◌<◌, ◌≤◌, ℤ, pos, Bool, true, false, if◌then◌else◌, nat_eq, nat_lt, List, [], ◌∷◌, length, map, Option, Some, None, Result, Ok, Err, refl, ◌∙◌, arith}
use Rattle.std.specs.Prelude.{⊤, ◌||◌, ◌-ℤ◌, not, option_map, slice_get, unsigned_abs}
use Rattle.std.proofs.lemmas.Bool.Decides.{nat_tests}
use Rattle.c3_base.specs.declared.cell.Cell.{Cell}
use Rattle.mpi_words.specs.declared.message.Datatype.{Datatype}
use Rattle.mpi_words.specs.declared.message.Message.{Message}
use Rattle.c_kernel.specs.declared.program.MpiFunction.{MpiFunction}
use Rattle.c_kernel.specs.declared.program.MpiFunction.TheVariants as function
use Rattle.c_memory.specs.declared.spot.Spot.{Spot}
use Rattle.mpi_effects.specs.declared.seat.Seat.{Seat}
use Rattle.mpi_effects.specs.declared.seat.Phase.{Phase}
use Rattle.mpi_effects.specs.declared.requests.Receipt.{Receipt}
use Rattle.c_memory.specs.Memory.{Memory, number, spot_of, map_ok, load, load_all, put_by, put, put_all, store, find_object, add_variable, add_variables, total, used, enter, null, pointer, grant, refuse, is_start, frees, free, with_arguments, is_refused, malloc}
use Rattle.mpi_effects.specs.Mpi.{Effect, require, leaves, requests, writes, status_cells, tested_status, put_status, no_message, receiving, sending, is_count, is_destination, is_source, is_tag, is_proc_null, send, waits, receive, received, counted, get_count, argument, called, is_due, effect, same_datatype, code_of, status_word}
use Rattle.c_values.specs.Value.{then_with, is_zero}

-- ---- writes

put_by_next : (m : Memory) (p : Spot) (c : Cell) (o : Option (List Cell)) → (put_by m p c o).next ≡ m.next
put_by_next m p c None = refl
put_by_next m p c (Some cells) = refl

pub put_next : (m : Memory) (p : Spot) (c : Cell) → (put m p c).next ≡ m.next
put_next m p c = put_by_next m p c (find_object m.variables p.serial)

pub put_all_next : (m : Memory) (p : Spot) (cs : List Cell) → (put_all m p cs).next ≡ m.next
put_all_next m p [] = refl
put_all_next m p (c ∷ cs) = put_all_next (put m p c) _ cs ∙ put_next m p c

pub arguments_next : (m : Memory) (serial : ℕ) (vs : List Cell) → (with_arguments m serial vs).next ≡ m.next
arguments_next m serial [] = refl
arguments_next m serial (v ∷ vs) = arguments_next (put m (record { serial = serial; place = pos 0 }) v) (suc serial) vs ∙ put_next m (record { serial = serial; place = pos 0 }) v

-- a memory with the next serial of another, or a fault
abbrev pub LikeNext : Memory → Result Memory ℕ → Type 0
LikeNext m (Err code) = ⊤
LikeNext m (Ok n) = n.next ≡ m.next

store_by : (m : Memory) (p : Spot) (c : Cell) (r : Result Cell ℕ) → LikeNext m (map_ok (λ old. put m p c) r)
store_by m p c (Err code) = tt
store_by m p c (Ok old) = put_next m p c

pub store_next : (m : Memory) (p : Spot) (c : Cell) → LikeNext m (store m p c)
store_next m p c = store_by m p c (load m p)

frees_next : (m : Memory) (serial : ℕ) (a b : Option (List Cell)) (start : Bool) → LikeNext m (frees m serial a b start)
frees_next m serial None None start = tt
frees_next m serial (Some cells) other start = tt
frees_next m serial None (Some cells) false = tt
frees_next m serial None (Some cells) true = refl

free_by : (m : Memory) (p : Cell) (t : Bool) → LikeNext m (if t then Ok m else frees m p.serial (find_object m.variables p.serial) (find_object m.heap p.serial) (is_start p.word))
free_by m p true = refl
free_by m p false = frees_next m p.serial (find_object m.variables p.serial) (find_object m.heap p.serial) (is_start p.word)

pub free_next : (m : Memory) (p : Cell) → LikeNext m (free m p)
free_next m p = free_by m p (nat_eq p.serial 0)

-- ---- calls of MPI

abbrev pub LikeEffect : Memory → Result Effect ℕ → Type 0
LikeEffect m (Err code) = ⊤
LikeEffect m (Ok e) = e.memory.next ≡ m.next

effect_if : (m : Memory) (t : Bool) (code : ℕ) (r : Result Effect ℕ) → LikeEffect m r → LikeEffect m (require t code r)
effect_if m true code r h = h
effect_if m false code r h = tt

effect_with : {A : Type 0} (m : Memory) (r : Result A ℕ) (go : A → Result Effect ℕ) → ((a : A) → LikeEffect m (go a)) → LikeEffect m (then_with r go)
effect_with m (Err code) go h = tt
effect_with m (Ok a) go h = h a

effect_either : (m : Memory) (t : Bool) (a b : Result Effect ℕ) → LikeEffect m a → LikeEffect m b → LikeEffect m (if t then a else b)
effect_either m true a b h g = h
effect_either m false a b h g = g

stored_effect : (m : Memory) (r : Result Memory ℕ) → LikeNext m r → LikeEffect m (then_with r leaves)
stored_effect m (Err code) h = tt
stored_effect m (Ok n) h = h

put_status_next : (m : Memory) (status : Option Spot) (cells : List Cell) → (put_status m status cells).next ≡ m.next
put_status_next m None cells = refl
put_status_next m (Some p) cells = put_all_next m p cells

writes_next : (m : Memory) (p : Cell) (n : ℤ) → LikeEffect m (writes m p n)
writes_next m p n = stored_effect m (store m (spot_of p) (number n)) (store_next m (spot_of p) (number n))

send_next : (seat : Seat) (m : Memory) (kind : Datatype) (buffer : Cell) (count to tag : ℤ) → LikeEffect m (send seat m kind buffer count to tag)
send_next seat m kind buffer count to tag =
    effect_if m (is_count count) 116 _ (effect_if m (is_destination seat to) 113 _ (effect_if m (is_tag tag) 114 _
    (effect_either m (is_proc_null to) (leaves m) _ refl (effect_with m _ (λ cells. requests m (sending kind to tag cells)) (λ cells. refl)))))

no_message_next : (m : Memory) (status : Option Spot) → LikeEffect m (no_message m status)
no_message_next m status = effect_with m (tested_status m status) _ (λ old. put_status_next m status _)

waits_next : (m : Memory) (kind : Datatype) (buffer : Spot) (count : ℕ) (from tag : ℤ) (status : Option Spot) → LikeEffect m (waits m kind buffer count from tag status)
waits_next m kind buffer count from tag status =
    effect_with m (load_all m buffer count) _ (λ old. effect_with m (tested_status m status) (λ older. requests m (receiving kind buffer count from tag status)) (λ older. refl))

receive_next : (seat : Seat) (m : Memory) (kind : Datatype) (buffer : Cell) (count from tag : ℤ) (status : Option Cell) → LikeEffect m (receive seat m kind buffer count from tag status)
receive_next seat m kind buffer count from tag status =
    effect_if m (is_count count) 116 _ (effect_if m (is_source seat from) 113 _ (effect_if m _ 114 _
    (effect_either m (is_proc_null from) _ _ (no_message_next m (option_map spot_of status)) (waits_next m kind (spot_of buffer) (unsigned_abs count) from tag (option_map spot_of status)))))

counted_next : (m : Memory) (kind : Datatype) (p : Cell) (cells : List Cell) → LikeEffect m (counted m kind p cells)
counted_next m kind p cells =
    let n = number (status_word cells 2) in
    effect_if m (is_zero (status_word cells 3) || is_zero (status_word cells 3 -ℤ pos (code_of kind))) 112 (leaves (put m (spot_of p) n)) (put_next m (spot_of p) n)

get_count_next : (m : Memory) (kind : Datatype) (status p : Cell) → LikeEffect m (get_count m kind status p)
get_count_next m kind status p = effect_with m (load_all m (spot_of status) 4) _ (λ cells. effect_with m (load m (spot_of p)) (λ old. counted m kind p cells) (λ old. counted_next m kind p cells))

called_next : (seat : Seat) (m : Memory) (f : MpiFunction) (vs : List Cell) → LikeEffect m (called seat m f vs)
called_next seat m function.Init vs = refl
called_next seat m function.Finalize vs = refl
called_next seat m function.CommRank vs = writes_next m (argument vs 0) (pos seat.rank)
called_next seat m function.CommSize vs = writes_next m (argument vs 0) (pos seat.ranks)
called_next seat m (function.Send kind) vs = send_next seat m kind (argument vs 0) (argument vs 1).word (argument vs 2).word (argument vs 3).word
called_next seat m (function.Recv kind) vs = receive_next seat m kind (argument vs 0) (argument vs 1).word (argument vs 2).word (argument vs 3).word (slice_get vs 4)
called_next seat m (function.GetCount kind) vs = get_count_next m kind (argument vs 0) (argument vs 1)

pub effect_next : (seat : Seat) (phase : Phase) (m : Memory) (f : MpiFunction) (vs : List Cell) → LikeEffect m (effect seat phase m f vs)
effect_next seat phase m f vs = effect_if m (is_due phase f) 117 (called seat m f vs) (called_next seat m f vs)

-- a message that comes
like_if : (m : Memory) (t : Bool) (code : ℕ) (r : Result Memory ℕ) → LikeNext m r → LikeNext m (require t code r)
like_if m true code r h = h
like_if m false code r h = tt

pub received_next : (r : Receipt) (m : Memory) (source : ℕ) (got : Message) → LikeNext m (received r m source got)
received_next r m source got =
    let elements = put_all m r.buffer (map number got.items) in
    let cells = status_cells (pos source) got.tag (length got.items) (code_of got.kind) in
    like_if m (same_datatype got.kind r.kind) 112 _ (like_if m (not (nat_lt r.count (length got.items))) 111 (Ok (put_status elements r.status cells)) (put_status_next elements r.status cells ∙ put_all_next m r.buffer (map number got.items)))

-- ---- what takes serials

variables_next : (m : Memory) (ns : List ℕ) → (add_variables m ns).next ≡ m.next + length ns
variables_next m [] = omega arith
variables_next m (n ∷ ns) = let rest : (add_variables (add_variable m n) ns).next ≡ m.next + 1 + length ns = variables_next (add_variable m n) ns in omega (arith, rest)

-- a call takes one for each of its variables, where their frame has room
abbrev pub Enters : Memory → List ℕ → Result Memory ℕ → Type 0
Enters m ns (Err code) = ⊤
Enters m ns (Ok n) = (n.next ≡ m.next + length ns) × (total ns < 8192)

enter_by : (m : Memory) (ns : List ℕ) (t : Bool) → nat_lt 8192 (used m + 1 + total ns) ≡ t → Enters m ns (if t then Err 108 else Ok (add_variables (record m { calls = m.calls + 1 }) ns))
enter_by m ns true e = tt
enter_by m ns false e = (variables_next (record m { calls = m.calls + 1 }) ns, grind (arith, nat_tests, e))

pub enter_next : (m : Memory) (ns : List ℕ) → Enters m ns (enter m ns)
enter_next m ns = enter_by m ns (nat_lt 8192 (used m + 1 + total ns)) refl

-- malloc takes one at most
abbrev given_by : Bool → Memory → ℕ → Memory × Cell
given_by t m n = if t then (refuse m n, null) else (grant m n, pointer m.next (pos 0))

allocated_by : (m : Memory) (n : ℕ) (t : Bool) → (given_by t m n).0.next ≤ m.next + 1
allocated_by m n true = omega arith
allocated_by m n false = omega arith

pub malloc_next : (refuses : Memory → ℕ → Bool) (m : Memory) (asked : Option ℕ) → (malloc refuses m asked).0.next ≤ m.next + 1
malloc_next refuses m None = omega arith
malloc_next refuses m (Some n) = allocated_by m n (is_refused refuses m n)
