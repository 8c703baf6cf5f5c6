-- How many more blocks the heap has room for, where each has a cell.
use Rattle.std.proofs.Common.{◌≡◌, ℕ, suc, ◌+◌, ◌-◌, ◌<◌, ◌≤◌, Bool, true, false, if◌then◌else◌, List, [], ◌∷◌, length, map, Some, None, refl, sym, ap, subst, arith}
use Rattle.std.specs.Prelude.{nat_eq, nat_lt}
use Rattle.std.proofs.lemmas.Bool.Decides.{nat_tests}
use Rattle.c_memory.specs.Memory.{Memory, asked_with, may_refuse}
use Rattle.flat_code.specs.declared.code.FlatFunction.{FlatFunction}
use Rattle.flat_code.specs.Machine.{Frame}
use Rattle.flat_code.specs.Placed.{Block, first_fit, insert_block, without_block}
use Rattle.rank_machine.specs.Tied.{AreApart}
use Rattle.turn_bounds.proofs.Apart.{cells_of, apart_total, apart_higher, apart_without, apart_with, block_at, fits, fits_few, full}
use Rattle.turn_bounds.specs.Spaced.{HaveCells}
use Rattle.turn_bounds.specs.Settled.{length_of, AreSettled}

abbrev pub room : List Block → ℕ
room heap = 65536 - length heap

few : (heap : List Block) → HaveCells (map length_of heap) → length heap ≤ cells_of heap
few [] h = omega arith
few (b ∷ bs) h =
    let one = h.0 in
    let r = few bs h.1 in
    omega (arith, one, r)

few_blocks : (heap : List Block) → AreApart 65536 0 heap → HaveCells (map length_of heap) → length heap ≤ 65536
few_blocks heap h k =
    let t = apart_total 65536 0 heap h in
    let f = few heap k in
    omega (arith, t, f)

-- ---- a block more

insert_by : (b c : Block) (cs more : List Block) (t : Bool) → length more ≡ suc (length cs) → length (if t then b ∷ c ∷ cs else c ∷ more) ≡ suc (length (c ∷ cs))
insert_by b c cs more true r = refl
insert_by b c cs more false r = ap suc r

insert_length : (b : Block) (bs : List Block) → length (insert_block b bs) ≡ suc (length bs)
insert_length b [] = refl
insert_length b (c ∷ cs) = insert_by b c cs (insert_block b cs) (nat_lt b.place c.place) (insert_length b cs)

cells_by : (b c : Block) (cs more : List Block) (t : Bool) → 1 ≤ b.length → HaveCells (map length_of (c ∷ cs)) → HaveCells (map length_of more) → HaveCells (map length_of (if t then b ∷ c ∷ cs else c ∷ more))
cells_by b c cs more true some h r = (some, h)
cells_by b c cs more false some h r = (h.0, r)

insert_cells : (b : Block) (bs : List Block) → 1 ≤ b.length → HaveCells (map length_of bs) → HaveCells (map length_of (insert_block b bs))
insert_cells b [] some h = (some, tt)
insert_cells b (c ∷ cs) some h = cells_by b c cs (insert_block b cs) (nat_lt b.place c.place) some h (insert_cells b cs some h.1)

past : (asked n : ℕ) → 65536 < asked + n → asked_with asked n ≡ 65537
past asked n l = let t : nat_lt 65536 (asked + n) ≡ true = grind (arith, nat_tests, l) in rw t refl

asked_more : (asked serial n p : ℕ) (bs : List Block) (t : Bool) → AreApart 65536 0 bs → AreApart asked 0 bs → 0 < n → first_fit bs 0 n ≡ Some p → AreApart (if t then 65537 else asked + n) 0 (insert_block (block_at serial p n) bs)
asked_more asked serial n p bs true h k some f =
    let room = fits_few 65536 0 n p bs (omega arith) h f in
    apart_with 65536 65537 0 n p serial bs (omega arith) (omega (arith, room)) some h f
asked_more asked serial n p bs false h k some f =
    let most = (fits asked 0 n p bs k f).upto in
    apart_with asked (asked + n) 0 n p serial bs (omega arith) (omega (arith, most)) some k f

-- malloc gives an object
pub granted : (functions : List FlatFunction) (asked serial n p : ℕ) (heap : List Block) (below : List Frame) → AreSettled functions asked heap below → 1 ≤ n → first_fit heap 0 n ≡ Some p → AreSettled functions (asked_with asked n) (insert_block (block_at serial p n) heap) below
granted functions asked serial n p heap below h some f =
    let few = fits_few 65536 0 n p heap (omega arith) h.within f in
    let positive : 0 < n = omega (arith, some) in
    record {
      within = apart_with 65536 65536 0 n p serial heap (omega arith) few positive h.within f;
      asked = asked_more asked serial n p heap (nat_lt 65536 (asked + n)) h.within h.asked positive f;
      cells = insert_cells (block_at serial p n) heap some h.cells;
      waiting = h.waiting;
    }

pub granted_room : (functions : List FlatFunction) (most : ℕ) (b : Block) (heap : List Block) (below : List Frame) → AreSettled functions most (insert_block b heap) below → room (insert_block b heap) + 1 ≡ room heap
granted_room functions most b heap below h =
    let l = insert_length b heap in
    let f = few_blocks (insert_block b heap) h.within h.cells in
    omega (arith, l, f)

-- it gives none
pub must_refuse : (functions : List FlatFunction) (m : Memory) (n : ℕ) (heap : List Block) (below : List Frame) → AreSettled functions m.asked heap below → first_fit heap 0 n ≡ None → may_refuse m n ≡ true
must_refuse functions m n heap below h f = rw (past m.asked n (full m.asked 0 n heap h.asked f)) refl

pub refused : (functions : List FlatFunction) (asked n : ℕ) (heap : List Block) (below : List Frame) → AreSettled functions asked heap below → first_fit heap 0 n ≡ None → AreSettled functions (asked_with asked n) heap below
refused functions asked n heap below h f = record {
  within = h.within;
  asked = subst (λ (k : ℕ). AreApart k 0 heap) (sym (past asked n (full asked 0 n heap h.asked f))) (apart_higher 65536 65537 0 heap (omega arith) h.within);
  cells = h.cells;
  waiting = h.waiting;
}

-- ---- a block less

without_by : (b : Block) (bs others : List Block) (t : Bool) → length bs ≤ suc (length others) → length (b ∷ bs) ≤ suc (length (if t then bs else b ∷ others))
without_by b bs others true r = omega arith
without_by b bs others false r = omega (arith, r)

without_length : (bs : List Block) (serial : ℕ) → length bs ≤ suc (length (without_block bs serial))
without_length [] serial = omega arith
without_length (b ∷ bs) serial = without_by b bs (without_block bs serial) (nat_eq b.serial serial) (without_length bs serial)

fewer_by : (b : Block) (bs others : List Block) (t : Bool) → HaveCells (map length_of (b ∷ bs)) → HaveCells (map length_of others) → HaveCells (map length_of (if t then bs else b ∷ others))
fewer_by b bs others true h r = h.1
fewer_by b bs others false h r = (h.0, r)

without_cells : (bs : List Block) (serial : ℕ) → HaveCells (map length_of bs) → HaveCells (map length_of (without_block bs serial))
without_cells [] serial h = h
without_cells (b ∷ bs) serial h = fewer_by b bs (without_block bs serial) (nat_eq b.serial serial) h (without_cells bs serial h.1)

pub freed : (functions : List FlatFunction) (asked serial : ℕ) (heap : List Block) (below : List Frame) → AreSettled functions asked heap below → AreSettled functions asked (without_block heap serial) below
freed functions asked serial heap below h = record {
  within = apart_without 65536 0 serial heap h.within;
  asked = apart_without asked 0 serial heap h.asked;
  cells = without_cells heap serial h.cells;
  waiting = h.waiting;
}

pub freed_room : (heap : List Block) (serial : ℕ) → room (without_block heap serial) ≤ room heap + 1
freed_room heap serial =
    let l = without_length heap serial in
    omega (arith, l)
