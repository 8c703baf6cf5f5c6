-- Memory: objects, each a list of cells, found by their serials. There are no addresses.
use Rattle.std.specs.Prelude.{ℕ, suc, ◌+◌, ◌-◌, ◌*◌, ◌/◌, ◌^◌, ℤ, pos, negsuc, ◌+ℤ◌, unsigned_abs, Bool, true, false, not, ◌&&◌, nat_eq, nat_lt, if◌then◌else◌, List, [], ◌∷◌, ◌++◌, length, take, drop, replicate, Option, Some, None, Result, Ok, Err, slice_get, slice_set}
use Rattle.c3_base.specs.declared.cell.Cell.{Cell}
use Rattle.c_kernel.specs.declared.types.Extent.{Extent}
use Rattle.c_memory.specs.declared.spot.Spot.{Spot}

-- a number has serial 0, NULL is (0, 0), and a pointer has its object's serial, and its place as the word
abbrev pub number : ℤ → Cell
number n = record { word = n; serial = 0 }

abbrev pub null : Cell
null = record { word = pos 0; serial = 0 }

abbrev pub pointer : ℕ → ℤ → Cell
pointer serial place = record { word = place; serial = serial }

-- where a pointer points
abbrev pub spot_of : Cell → Spot
spot_of p = record { serial = p.serial; place = p.word }

-- a place so many cells from its object's start. Farther than 2^120 it is outside for good: no text of 65,536 bytes leads so far and back
abbrev pub is_near : ℤ → Bool
is_near (pos n) = nat_lt n (2 ^ 120)
is_near (negsuc n) = nat_lt n (2 ^ 120)

abbrev pub moved : Spot → ℤ → Result Spot ℕ
moved p n = if is_near (p.place +ℤ n) then Ok (record { serial = p.serial; place = p.place +ℤ n }) else Err 102

pub record Object : Type 0 where
  pub serial : ℕ
  pub cells : List Cell

-- the variables of the calls that are under way and the objects that malloc gave, both the oldest first; the next serial; how many calls are under way; how many cells malloc was ever asked for, where 65,537 stands for any more than 65,536
pub record Memory : Type 0 where
  pub variables : List Object
  pub heap : List Object
  pub next : ℕ
  pub calls : ℕ
  pub asked : ℕ

abbrev pub empty : Memory
empty = record { variables = []; heap = []; next = 1; calls = 0; asked = 0 }

-- the cells of the object with a serial
abbrev pub find_object : List Object → ℕ → Option (List Cell)
find_object [] serial = None
find_object (o ∷ os) serial = if nat_eq o.serial serial then Some o.cells else find_object os serial

abbrev pub either_of : Option (List Cell) → Option (List Cell) → Option (List Cell)
either_of (Some cells) other = Some cells
either_of None other = other

abbrev pub cells_of : Memory → ℕ → Option (List Cell)
cells_of m serial = either_of (find_object m.variables serial) (find_object m.heap serial)

-- another value, and the same fault
abbrev pub map_ok : {A B : Type 0} → (A → B) → Result A ℕ → Result B ℕ
map_ok f (Err code) = Err code
map_ok f (Ok v) = Ok (f v)

-- ---- an access: 101 through NULL, then 103 where the object is dead, then 102 outside it

abbrev pub or_outside : Option Cell → Result Cell ℕ
or_outside None = Err 102
or_outside (Some c) = Ok c

abbrev pub cell_at : List Cell → ℤ → Result Cell ℕ
cell_at cells (negsuc n) = Err 102
cell_at cells (pos n) = or_outside (slice_get cells n)

abbrev pub cell_in : Option (List Cell) → ℤ → Result Cell ℕ
cell_in None place = Err 103
cell_in (Some cells) place = cell_at cells place

abbrev pub load : Memory → Spot → Result Cell ℕ
load m p = if nat_eq p.serial 0 then Err 101 else cell_in (cells_of m p.serial) p.place

-- so many cells from a spot on, all of them in one object, with the same tests; none of them isn't tested
abbrev pub are_in : List Cell → ℤ → ℕ → Bool
are_in cells (negsuc k) n = false
are_in cells (pos k) n = not (nat_lt (length cells) (k + n))

abbrev pub piece_in : Option (List Cell) → ℤ → ℕ → Result (List Cell) ℕ
piece_in None place n = Err 103
piece_in (Some cells) place n = if are_in cells place n then Ok (take n (drop (unsigned_abs place) cells)) else Err 102

abbrev pub load_all : Memory → Spot → ℕ → Result (List Cell) ℕ
load_all m p n = if nat_eq n 0 then Ok [] else if nat_eq p.serial 0 then Err 101 else piece_in (cells_of m p.serial) p.place n

-- a list with a cell put at a place
abbrev pub with_cell : List Cell → ℤ → Cell → List Cell
with_cell cells (negsuc n) c = cells
with_cell cells (pos n) c = slice_set cells n c

-- objects of which one has its cell put at a place
abbrev pub put_cell : List Object → Spot → Cell → List Object
put_cell [] p c = []
put_cell (o ∷ os) p c = if nat_eq o.serial p.serial then record { serial = o.serial; cells = with_cell o.cells p.place c } ∷ os else o ∷ put_cell os p c

-- among the variables where the object is one, and else in the heap
abbrev pub put_by : Memory → Spot → Cell → Option (List Cell) → Memory
put_by m p c None = record m { heap = put_cell m.heap p c }
put_by m p c (Some cells) = record m { variables = put_cell m.variables p c }

abbrev pub put : Memory → Spot → Cell → Memory
put m p c = put_by m p c (find_object m.variables p.serial)

-- cells that are put from a spot on
abbrev pub put_all : Memory → Spot → List Cell → Memory
put_all m p [] = m
put_all m p (c ∷ cs) = put_all (put m p c) (record { serial = p.serial; place = p.place +ℤ pos 1 }) cs

-- a store tests as a load does
abbrev pub store : Memory → Spot → Cell → Result Memory ℕ
store m p c = map_ok (λ old. put m p c) (load m p)

-- ---- a pointer that is made: 110 from NULL, then 103 where the object is dead, then 110 where the place isn't 0 to the object's length

abbrev pub is_within : ℕ → ℤ → Bool
is_within n (pos k) = not (nat_lt n k)
is_within n (negsuc k) = false

abbrev pub pointing_in : Option (List Cell) → Spot → Result Cell ℕ
pointing_in None p = Err 103
pointing_in (Some cells) p = if is_within (length cells) p.place then Ok (pointer p.serial p.place) else Err 110

abbrev pub pointing : Memory → Spot → Result Cell ℕ
pointing m p = if nat_eq p.serial 0 then Err 110 else pointing_in (cells_of m p.serial) p

-- an object's cells all become (0, 0)
abbrev pub zero_object : List Object → ℕ → List Object
zero_object [] serial = []
zero_object (o ∷ os) serial = if nat_eq o.serial serial then record { serial = o.serial; cells = replicate (length o.cells) null } ∷ os else o ∷ zero_object os serial

abbrev pub zeroed : Memory → ℕ → Memory
zeroed m serial = record m { variables = zero_object m.variables serial }

-- ---- calls

-- a new object, of cells (0, 0)
abbrev pub fresh : ℕ → ℕ → Object
fresh serial n = record { serial = serial; cells = replicate n null }

abbrev pub total : List ℕ → ℕ
total [] = 0
total (n ∷ ns) = n + total ns

abbrev pub cells_in : List Object → ℕ
cells_in [] = 0
cells_in (o ∷ os) = length o.cells + cells_in os

-- one more variable
abbrev pub add_variable : Memory → ℕ → Memory
add_variable m n = record m { variables = m.variables ++ fresh m.next n ∷ []; next = m.next + 1 }

abbrev pub add_variables : Memory → List ℕ → Memory
add_variables m [] = m
add_variables m (n ∷ ns) = add_variables (add_variable m n) ns

-- the cells of the stack in use: one for each call, and those of the variables
abbrev pub used : Memory → ℕ
used m = m.calls + cells_in m.variables

-- a call begins, with variables of so many cells each: 108 where the stack's 8,192 cells would not hold its frame
abbrev pub enter : Memory → List ℕ → Result Memory ℕ
enter m lengths = if nat_lt 8192 (used m + 1 + total lengths) then Err 108 else Ok (add_variables (record m { calls = m.calls + 1 }) lengths)

-- the newest call ends, which has so many variables: they die
abbrev pub leave : Memory → ℕ → Memory
leave m count = record m { variables = take (length m.variables - count) m.variables; calls = m.calls - 1 }

-- the parameters get the values
abbrev pub with_arguments : Memory → ℕ → List Cell → Memory
with_arguments m serial [] = m
with_arguments m serial (v ∷ vs) = with_arguments (put m (record { serial = serial; place = pos 0 }) v) (suc serial) vs

-- ---- malloc and free (7.20.3)

-- the cells that malloc was ever asked for, with these
abbrev pub asked_with : ℕ → ℕ → ℕ
asked_with asked n = if nat_lt 65536 (asked + n) then 65537 else asked + n

-- malloc gives an object of so many cells
abbrev pub grant : Memory → ℕ → Memory
grant m n = record m { heap = m.heap ++ fresh m.next n ∷ []; next = m.next + 1; asked = asked_with m.asked n }

-- or NULL
abbrev pub refuse : Memory → ℕ → Memory
refuse m n = record m { asked = asked_with m.asked n }

-- it may give NULL only where all cells ever asked for, with these, are more than 65,536
abbrev pub may_refuse : Memory → ℕ → Bool
may_refuse m n = nat_lt 65536 (asked_with m.asked n)

-- whether the heap has no room for so many cells more, beside those of the objects that live: what this program goes by
abbrev pub is_full : Memory → ℕ → Bool
is_full m n = nat_lt 65536 (cells_in m.heap + n)

-- how many cells malloc is asked for; none, where so many bytes hold no object
abbrev pub cells_asked : ℤ → Extent → Option ℕ
cells_asked (negsuc n) each = None
cells_asked (pos n) each = if nat_lt 0 (n / each.size) then Some (n / each.size * each.cells) else None

-- whether NULL is given, by the choice where there is one
abbrev pub is_refused : (Memory → ℕ → Bool) → Memory → ℕ → Bool
is_refused refuses m n = may_refuse m n && refuses m n

-- the memory after it, and the pointer
abbrev pub allocated : (Memory → ℕ → Bool) → Memory → ℕ → Memory × Cell
allocated refuses m n = if is_refused refuses m n then (refuse m n, null) else (grant m n, pointer m.next (pos 0))

abbrev pub malloc : (Memory → ℕ → Bool) → Memory → Option ℕ → Memory × Cell
malloc refuses m None = (m, null)
malloc refuses m (Some n) = allocated refuses m n

-- the objects without that of a serial
abbrev pub without : List Object → ℕ → List Object
without [] serial = []
without (o ∷ os) serial = if nat_eq o.serial serial then os else o ∷ without os serial

abbrev pub is_start : ℤ → Bool
is_start (pos n) = nat_eq n 0
is_start (negsuc n) = false

-- by the variable with this serial, the object of malloc with it, and whether the place is its start: 103 where there is neither, then 104
abbrev pub frees : Memory → ℕ → Option (List Cell) → Option (List Cell) → Bool → Result Memory ℕ
frees m serial None None start = Err 103
frees m serial (Some cells) other start = Err 104
frees m serial None (Some cells) false = Err 104
frees m serial None (Some cells) true = Ok (record m { heap = without m.heap serial })

-- nothing is done for NULL
abbrev pub free : Memory → Cell → Result Memory ℕ
free m p = if nat_eq p.serial 0 then Ok m else frees m p.serial (find_object m.variables p.serial) (find_object m.heap p.serial) (is_start p.word)
