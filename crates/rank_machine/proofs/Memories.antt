-- What keeps objects and blocks tied.
use Rattle.std.proofs.Common.{◌≡◌, ℕ, ◌+◌, ◌<◌, ◌≤◌, pos, Bool, true, false, if◌then◌else◌, List, [], ◌∷◌, ◌++◌, length, Option, Some, None, Result, Ok, Err, refl, ap, sym, ◌∙◌, subst, arith}
use Rattle.std.specs.Prelude.{⊤, IfErr, ℤ, negsuc, ◌+ℤ◌, ◌&&◌, nat_eq, nat_lt}
use Rattle.std.proofs.lemmas.List.{length-replicate, map-append, length-set}
use Rattle.std.proofs.lemmas.Bool.Decides.{nat_tests}
use Rattle.c3_base.specs.declared.cell.Cell.{Cell}
use Rattle.c_memory.specs.declared.spot.Spot.{Spot}
use Rattle.c_memory.specs.Memory.{Object, Memory, find_object, with_cell, put_cell, put_by, put, put_all, null, fresh, add_variable, add_variables, used, total, enter, map_ok, asked_with, may_refuse, grant, refuse, is_full, cells_in, pointer, allocated, without, is_start, frees, free}
use Rattle.flat_code.specs.Placed.{Block, first_fit, insert_block, without_block}
use Rattle.rank_machine.specs.Tied.{Size, size_of, sizes_of, without_size, AreApart, AreTied, AreBelow, IsTied}
use Rattle.rank_machine.proofs.Apart.{apart_total, apart_higher, apart_without, apart_with, block_at, cells_with, fits, fits_few, full}
use Rattle.rank_machine.proofs.Sizes as sizes
use Rattle.rank_machine.proofs.Sizes.{below_none, none_at_zero, below_more, below_push, below_without}
use Rattle.rank_machine.proofs.Ties.{tied_total, tied_freed, tied_given, tied_none}

-- ---- the same objects

pub tied_like : (m n : Memory) (bs : List Block) → sizes_of n.heap ≡ sizes_of m.heap → m.next ≤ n.next → n.asked ≡ m.asked → IsTied m bs → IsTied n bs
tied_like m n bs s l a h = record {
  within = h.within;
  asked = subst (λ (k : ℕ). AreApart k 0 bs) (sym a) h.asked;
  tied = subst (λ (x : List Size). AreTied x bs) (sym s) h.tied;
  serials = subst (λ (x : List Size). AreBelow n.next x) (sym s) (below_more m.next n.next (sizes_of m.heap) l h.serials);
}

-- ---- cells that are put

same_length : (cells : List Cell) (place : ℤ) (c : Cell) → length (with_cell cells place c) ≡ length cells
same_length cells (negsuc n) c = refl
same_length cells (pos n) c = length-set cells n c

put_sizes_by : (o : Object) (os more : List Object) (p : Spot) (c : Cell) (t : Bool) → sizes_of more ≡ sizes_of os → sizes_of (if t then record { serial = o.serial; cells = with_cell o.cells p.place c } ∷ os else o ∷ more) ≡ sizes_of (o ∷ os)
put_sizes_by o os more p c true r = ap (λ (n : ℕ). record { serial = o.serial; cells = n } ∷ sizes_of os) (same_length o.cells p.place c)
put_sizes_by o os more p c false r = ap (λ (x : List Size). size_of o ∷ x) r

put_sizes : (os : List Object) (p : Spot) (c : Cell) → sizes_of (put_cell os p c) ≡ sizes_of os
put_sizes [] p c = refl
put_sizes (o ∷ os) p c = put_sizes_by o os (put_cell os p c) p c (nat_eq o.serial p.serial) (put_sizes os p c)

tied_put_by : (m : Memory) (bs : List Block) (p : Spot) (c : Cell) (found : Option (List Cell)) → IsTied m bs → IsTied (put_by m p c found) bs
tied_put_by m bs p c None h = tied_like m (record m { heap = put_cell m.heap p c }) bs (put_sizes m.heap p c) (omega arith) refl h
tied_put_by m bs p c (Some cells) h = tied_like m (record m { variables = put_cell m.variables p c }) bs refl (omega arith) refl h

pub tied_put : (m : Memory) (bs : List Block) (p : Spot) (c : Cell) → IsTied m bs → IsTied (put m p c) bs
tied_put m bs p c h = tied_put_by m bs p c (find_object m.variables p.serial) h

pub tied_put_all : (m : Memory) (bs : List Block) (p : Spot) (cs : List Cell) → IsTied m bs → IsTied (put_all m p cs) bs
tied_put_all m bs p [] h = h
tied_put_all m bs p (c ∷ cs) h = tied_put_all (put m p c) bs (record { serial = p.serial; place = p.place +ℤ pos 1 }) cs (tied_put m bs p c h)

-- ---- calls

tied_variables : (m : Memory) (bs : List Block) (ns : List ℕ) → IsTied m bs → IsTied (add_variables m ns) bs
tied_variables m bs [] h = h
tied_variables m bs (n ∷ ns) h = tied_variables (add_variable m n) bs ns (tied_like m (add_variable m n) bs refl (omega arith) refl h)

-- a result of a memory that is tied to blocks
abbrev pub TiedOk : List Block → Result Memory ℕ → Type 0
TiedOk bs (Ok m) = IsTied m bs
TiedOk bs (Err code) = ⊤

entered_by : (m : Memory) (bs : List Block) (ns : List ℕ) (t : Bool) → IsTied m bs → TiedOk bs (if t then Err 108 else Ok (add_variables (record m { calls = m.calls + 1 }) ns))
entered_by m bs ns true h = tt
entered_by m bs ns false h = tied_variables (record m { calls = m.calls + 1 }) bs ns (tied_like m (record m { calls = m.calls + 1 }) bs refl (omega arith) refl h)

entered : (m : Memory) (bs : List Block) (ns : List ℕ) → IsTied m bs → TiedOk bs (enter m ns)
entered m bs ns h = entered_by m bs ns (nat_lt 8192 (used m + 1 + total ns)) h

pub tied_entered : (m n : Memory) (bs : List Block) (ns : List ℕ) → IsTied m bs → Ok n ≡ enter m ns → IsTied n bs
tied_entered m n bs ns h e = subst (λ (r : Result Memory ℕ). TiedOk bs r) (sym e) (entered m bs ns h)

pub tied_result : {A : Type 0} (m n : Memory) (bs : List Block) (ns : List ℕ) (did : Result A ℕ) → IsTied m bs → map_ok (λ done. n) did ≡ enter m ns → IfErr did (λ code. n ≡ m) → IsTied n bs
tied_result m n bs ns (Ok done) h e s = tied_entered m n bs ns h e
tied_result m n bs ns (Err code) h e s = subst (λ (x : Memory). IsTied x bs) (sym s) h

-- ---- free

sizes_without_by : (o : Object) (os more : List Object) (serial : ℕ) (t : Bool) → sizes_of more ≡ without_size (sizes_of os) serial → sizes_of (if t then os else o ∷ more) ≡ (if t then sizes_of os else size_of o ∷ without_size (sizes_of os) serial)
sizes_without_by o os more serial true r = refl
sizes_without_by o os more serial false r = ap (λ (x : List Size). size_of o ∷ x) r

sizes_without : (os : List Object) (serial : ℕ) → sizes_of (without os serial) ≡ without_size (sizes_of os) serial
sizes_without [] serial = refl
sizes_without (o ∷ os) serial = sizes_without_by o os (without os serial) serial (nat_eq o.serial serial) (sizes_without os serial)

freed_object : (m : Memory) (bs : List Block) (serial : ℕ) → IsTied m bs → IsTied (record m { heap = without m.heap serial }) (without_block bs serial)
freed_object m bs serial h = record {
  within = apart_without 65536 0 serial bs h.within;
  asked = apart_without m.asked 0 serial bs h.asked;
  tied = subst (λ (x : List Size). AreTied x (without_block bs serial)) (sym (sizes_without m.heap serial)) (tied_freed (sizes_of m.heap) bs serial h.tied);
  serials = subst (λ (x : List Size). AreBelow m.next x) (sym (sizes_without m.heap serial)) (below_without m.next serial (sizes_of m.heap) h.serials);
}

frees_by : (m : Memory) (bs : List Block) (serial : ℕ) (variable object : Option (List Cell)) (start : Bool) → IsTied m bs → TiedOk (without_block bs serial) (frees m serial variable object start)
frees_by m bs serial None None start h = tt
frees_by m bs serial (Some cells) other start h = tt
frees_by m bs serial None (Some cells) false h = tt
frees_by m bs serial None (Some cells) true h = freed_object m bs serial h

free_by : (m : Memory) (bs : List Block) (p : Cell) (t : Bool) → nat_eq p.serial 0 ≡ t → IsTied m bs → TiedOk (without_block bs p.serial) (if t then Ok m else frees m p.serial (find_object m.variables p.serial) (find_object m.heap p.serial) (is_start p.word))
free_by m bs p true e h =
    let z : p.serial ≡ 0 = grind (arith, nat_tests, e) in
    let same : without_block bs 0 ≡ bs = tied_none (sizes_of m.heap) bs 0 h.tied (none_at_zero m.next (sizes_of m.heap) h.serials) in
    subst (λ (x : List Block). IsTied m x) (sym (ap (without_block bs) z ∙ same)) h
free_by m bs p false e h = frees_by m bs p.serial (find_object m.variables p.serial) (find_object m.heap p.serial) (is_start p.word) h

pub tied_free : (m n : Memory) (bs : List Block) (p : Cell) → IsTied m bs → Ok n ≡ free m p → IsTied n (without_block bs p.serial)
tied_free m n bs p h e = subst (λ (r : Result Memory ℕ). TiedOk (without_block bs p.serial) r) (sym e) (free_by m bs p (nat_eq p.serial 0) refl h)

-- ---- malloc

pub cells_sizes : (os : List Object) → cells_in os ≡ sizes.total (sizes_of os)
cells_sizes [] = refl
cells_sizes (o ∷ os) = let r = cells_sizes os in omega (arith, r)

-- cells that fit have room
pub has_room : (m : Memory) (bs : List Block) (n p : ℕ) → IsTied m bs → 0 < n → first_fit bs 0 n ≡ Some p → is_full m n ≡ false
has_room m bs n p h some f =
    let b = block_at 0 p n in
    let room = fits_few 65536 0 n p bs (omega arith) h.within f in
    let all = apart_with 65536 65536 0 n p 0 bs (omega arith) room some h.within f in
    let t = apart_total 65536 0 (insert_block b bs) all in
    let i = cells_with b bs in
    let c = cells_sizes m.heap in
    let s = tied_total (sizes_of m.heap) bs h.tied in
    let few : cells_in m.heap + n ≤ 65536 = omega (arith, t, i, c, s) in
    grind (arith, nat_tests, few)

-- where none fits NULL is allowed
past : (asked n : ℕ) → 65536 < asked + n → asked_with asked n ≡ 65537
past asked n l = let t : nat_lt 65536 (asked + n) ≡ true = grind (arith, nat_tests, l) in rw t refl

pub may_be_refused : (m : Memory) (bs : List Block) (n : ℕ) → IsTied m bs → first_fit bs 0 n ≡ None → may_refuse m n ≡ true
may_be_refused m bs n h f = rw (past m.asked n (full m.asked 0 n bs h.asked f)) refl

refused_memory : (m : Memory) (bs : List Block) (n : ℕ) → IsTied m bs → first_fit bs 0 n ≡ None → IsTied (refuse m n) bs
refused_memory m bs n h f = record {
  within = h.within;
  asked = subst (λ (k : ℕ). AreApart k 0 bs) (sym (past m.asked n (full m.asked 0 n bs h.asked f))) (apart_higher 65536 65537 0 bs (omega arith) h.within);
  tied = h.tied;
  serials = h.serials;
}

asked_more : (m : Memory) (bs : List Block) (n p : ℕ) (t : Bool) → IsTied m bs → 0 < n → first_fit bs 0 n ≡ Some p → AreApart (if t then 65537 else m.asked + n) 0 (insert_block (block_at m.next p n) bs)
asked_more m bs n p true h some f =
    let room = fits_few 65536 0 n p bs (omega arith) h.within f in
    apart_with 65536 65537 0 n p m.next bs (omega arith) (omega (arith, room)) some h.within f
asked_more m bs n p false h some f =
    let most = (fits m.asked 0 n p bs h.asked f).upto in
    apart_with m.asked (m.asked + n) 0 n p m.next bs (omega arith) (omega (arith, most)) some h.asked f

more_sizes : (os : List Object) (serial n : ℕ) → sizes_of (os ++ fresh serial n ∷ []) ≡ sizes_of os ++ record { serial = serial; cells = n } ∷ []
more_sizes os serial n = map-append size_of os (fresh serial n ∷ []) ∙ ap (λ (k : ℕ). sizes_of os ++ record { serial = serial; cells = k } ∷ []) (length-replicate n null)

granted_memory : (m : Memory) (bs : List Block) (n p : ℕ) → IsTied m bs → 0 < n → first_fit bs 0 n ≡ Some p → IsTied (grant m n) (insert_block (block_at m.next p n) bs)
granted_memory m bs n p h some f =
    let new = below_none m.next m.next (sizes_of m.heap) h.serials (omega arith) in
    let room = fits_few 65536 0 n p bs (omega arith) h.within f in
    record {
      within = apart_with 65536 65536 0 n p m.next bs (omega arith) room some h.within f;
      asked = asked_more m bs n p (nat_lt 65536 (m.asked + n)) h some f;
      tied = subst (λ (x : List Size). AreTied x (insert_block (block_at m.next p n) bs)) (sym (more_sizes m.heap m.next n)) (tied_given (sizes_of m.heap) (block_at m.next p n) bs h.tied new);
      serials = subst (λ (x : List Size). AreBelow (m.next + 1) x) (sym (more_sizes m.heap m.next n)) (below_push m.next (m.next + 1) n (sizes_of m.heap) (omega arith) h.serials);
    }

abbrev pub by_choice : Bool → Memory → ℕ → Bool
by_choice b m n = b

refused_by : (m n : Memory) (c : Cell) (k : ℕ) (t : Bool) → t ≡ true → ◌≡◌ {A = Memory × Cell} (n, c) (if t && true then (refuse m k, null) else (grant m k, pointer m.next (pos 0))) → n ≡ refuse m k
refused_by m n c k true e f = ap (λ (x : Memory × Cell). x.0) f
refused_by m n c k false e f = absurd cc

pub tied_refused : (m n : Memory) (c : Cell) (k : ℕ) (bs : List Block) → IsTied m bs → first_fit bs 0 k ≡ None → ◌≡◌ {A = Memory × Cell} (n, c) (allocated (by_choice true) m k) → IsTied n bs
tied_refused m n c k bs h f e = subst (λ (x : Memory). IsTied x bs) (sym (refused_by m n c k (may_refuse m k) (may_be_refused m bs k h f) e)) (refused_memory m bs k h f)

granted_by : (m n : Memory) (c : Cell) (k : ℕ) (t : Bool) → ◌≡◌ {A = Memory × Cell} (n, c) (if t && false then (refuse m k, null) else (grant m k, pointer m.next (pos 0))) → n ≡ grant m k
granted_by m n c k true f = ap (λ (x : Memory × Cell). x.0) f
granted_by m n c k false f = ap (λ (x : Memory × Cell). x.0) f

pub tied_granted : (m n : Memory) (c : Cell) (k p : ℕ) (bs : List Block) → IsTied m bs → 0 < k → first_fit bs 0 k ≡ Some p → ◌≡◌ {A = Memory × Cell} (n, c) (allocated (by_choice false) m k) → IsTied n (insert_block (block_at m.next p k) bs)
tied_granted m n c k p bs h some f e = subst (λ (x : Memory). IsTied x (insert_block (block_at m.next p k) bs)) (sym (granted_by m n c k (may_refuse m k) e)) (granted_memory m bs k p h some f)
