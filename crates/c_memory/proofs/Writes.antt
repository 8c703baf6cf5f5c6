-- Cells that are put one after another.
use Rattle.std.proofs.Common.{◌≡◌, ℕ, zero, suc, ◌+◌, ◌<◌, ◌≤◌, List, [], ◌∷◌, length, map, drop, get_or, slice_set, Some, None, Bool, true, false, nat_eq, if◌then◌else◌, pos, ◌^◌, FitsSigned, to_z, of_z, refl, sym, ap, subst, ◌∙◌, arith, add-one}
use Rattle.std.specs.Prelude.{ℤ, negsuc, ◌+ℤ◌}
use Rattle.std.specs.Int.{w128}
use Rattle.std.specs.Int.Signed.{le_z}
use Rattle.std.proofs.lemmas.Bool.Decides.{nat_tests}
use Rattle.std.proofs.lemmas.Int.{to_z-of_z, to_z_pos, ints, fits_signed_from_abs}
use Rattle.std.proofs.lemmas.List.{set_past}
use Rattle.c3_base.specs.declared.cell.Cell.{Cell}
use Rattle.c_memory.specs.declared.object.Object.{Object}
use Rattle.c_memory.specs.declared.spot.Spot.{Spot}
use Rattle.c_memory.specs.Seen.{serial_of, objects_of, object_of}
use Rattle.c_memory.specs.Memory as spec
use Rattle.c_memory.specs.Memory.{Memory, number, cells_in, find_object, with_cell, put_cell, put_by, put, put_all}
use Rattle.c_memory.specs.Written.{with_cells, put_cells}
use Rattle.c_memory.proofs.Finds.{StandsAt, Misses, with_length}

abbrev next : Spot → Spot
next p = record { serial = p.serial; place = p.place +ℤ pos 1 }

-- past the end nothing changes
pub past : (cells : List Cell) (k : ℕ) (cs : List Cell) → length cells ≤ k → with_cells cells (pos k) cs ≡ cells
past cells k [] h = refl
past cells k (c ∷ cs) h = ap (λ xs. with_cells xs (pos (k + 1)) cs) (set_past cells k c h) ∙ past cells (k + 1) cs (omega (arith, h))

past_from : (cells : List Cell) (n : ℕ) (z : ℤ) (cs : List Cell) → n ≡ length cells → le_z (pos n) z ≡ true → with_cells cells z cs ≡ cells
past_from cells n (pos k) cs e h = past cells k cs (let l : n ≤ k = grind (arith, nat_tests, h) in omega (arith, l, e))
past_from cells n (negsuc k) cs e h = absurd (grind (arith, h))

-- at a place that was tested
pub past_end : (cells : List Cell) (n : ℕ) (z : ℤ) (cs : List Cell) → n ≡ length cells → n < 2 ^ 64 → le_z (to_z w128 n) z ≡ true → with_cells cells z cs ≡ cells
past_end cells n z cs e l h = past_from cells n z cs e (subst (λ a. le_z a z ≡ true) (to_z_pos w128 n (omega (arith, l))) h)

next_fits : (n : ℕ) (z : ℤ) → n < 2 ^ 64 → FitsSigned w128 z → le_z (pos n) z ≡ false → FitsSigned w128 (z +ℤ pos 1)
next_fits n (pos k) l f h = fits_signed_from_abs w128 (pos (k + 1)) (let m : k < n = grind (arith, nat_tests, h) in omega (arith, l, m))
next_fits n (negsuc zero) l f h = fits_signed_from_abs w128 (pos 0) (omega arith)
next_fits n (negsuc (suc k)) l f h = omega (arith, ints, f)

-- of no more numbers nothing is put
pub none_left : (cells : List Cell) (place : ℤ) (ns : List ℤ) (i : ℕ) → length ns ≤ i → with_cells cells place (map number (drop i ns)) ≡ cells
none_left cells place [] zero h = refl
none_left cells place [] (suc i) h = refl
none_left cells place (n ∷ ns) zero h = absurd (omega (arith, h))
none_left cells place (n ∷ ns) (suc i) h = none_left cells place ns i (omega (arith, h))

one_left : (cells : List Cell) (place : ℤ) (ns : List ℤ) (i : ℕ) (d : ℤ) → i < length ns → with_cells (with_cell cells place (number (get_or ns i d))) (place +ℤ pos 1) (map number (drop (suc i) ns)) ≡ with_cells cells place (map number (drop i ns))
one_left cells place [] i d h = absurd (omega (arith, h))
one_left cells place (n ∷ ns) zero d h = refl
one_left cells place (n ∷ ns) (suc i) d h = one_left cells place ns i d (omega (arith, h))

-- one number, and then the others
pub one_more : (cells : List Cell) (place : ℤ) (ns : List ℤ) (i : ℕ) (d : ℤ) → i < length ns → with_cells (with_cell cells place (number (get_or ns i d))) (place +ℤ pos 1) (map number (drop (i + 1) ns)) ≡ with_cells cells place (map number (drop i ns))
one_more cells place ns i d h = rw (add-one i) (one_left cells place ns i d h)

pub turn : (cells new : List Cell) (n : ℕ) (z next : ℤ) (ns : List ℤ) (i : ℕ) (c : Cell) → i < length ns → n < 2 ^ 64 → FitsSigned w128 z → le_z (to_z w128 n) z ≡ false → next ≡ to_z w128 (of_z w128 (z +ℤ pos 1)) → new ≡ with_cell cells z c → c ≡ number (get_or ns i (pos 0)) → with_cells new next (map number (drop (i + 1) ns)) ≡ with_cells cells z (map number (drop i ns))
turn cells new n z next ns i c h l f t e g d =
    let fits : FitsSigned w128 (z +ℤ pos 1) = next_fits n z l f (subst (λ a. le_z a z ≡ false) (to_z_pos w128 n (omega (arith, l))) t) in
    let at : next ≡ z +ℤ pos 1 = e ∙ to_z-of_z w128 (z +ℤ pos 1) fits in
    ap (λ xs. with_cells xs next (map number (drop (i + 1) ns))) (g ∙ ap (with_cell cells z) d)
    ∙ ap (λ p. with_cells (with_cell cells z (number (get_or ns i (pos 0)))) p (map number (drop (i + 1) ns))) at
    ∙ one_more cells z ns i (pos 0) h

all_length : (cells : List Cell) (place : ℤ) (cs : List Cell) → length (with_cells cells place cs) ≡ length cells
all_length cells place [] = refl
all_length cells place (c ∷ cs) = all_length (with_cell cells place c) (place +ℤ pos 1) cs ∙ with_length cells place c

-- ---- in the object with a serial

pub puts_some : (os : List Object) (i : ℕ) (p : Spot) (cs : List Cell) (d o : Object) → StandsAt serial_of os p.serial i → o.serial ≡ (get_or os i d).serial → o.cells.items ≡ with_cells (get_or os i d).cells.items p.place cs → objects_of (slice_set os i o) ≡ put_cells (objects_of os) p cs
puts_some [] i p cs d o h e f = absurd h
puts_some (x ∷ os) zero p cs d o h e f = rw (h, e, f) refl
puts_some (x ∷ os) (suc i) p cs d o h e f = rw h.0 (ap (λ r. object_of x ∷ r) (puts_some os i p cs d o h.1 e f))

pub puts_none : (os : List Object) (p : Spot) (cs : List Cell) → Misses serial_of os p.serial → objects_of os ≡ put_cells (objects_of os) p cs
puts_none [] p cs h = refl
puts_none (x ∷ os) p cs h = rw h.0 (ap (λ r. object_of x ∷ r) (puts_none os p cs h.1))

puts_tested : (o : spec.Object) (os : List spec.Object) (p : Spot) (cs : List Cell) (t : Bool) → nat_eq o.serial p.serial ≡ t → cells_in (put_cells os p cs) ≡ cells_in os → cells_in (put_cells (o ∷ os) p cs) ≡ cells_in (o ∷ os)
puts_tested o os p cs true e h = rw e (ap (λ k. k + cells_in os) (all_length o.cells p.place cs))
puts_tested o os p cs false e h = rw e (ap (λ k. length o.cells + k) h)

pub cells_puts : (os : List spec.Object) (p : Spot) (cs : List Cell) → cells_in (put_cells os p cs) ≡ cells_in os
cells_puts [] p cs = refl
cells_puts (o ∷ os) p cs = puts_tested o os p cs (nat_eq o.serial p.serial) refl (cells_puts os p cs)

-- ---- one cell, and then the others

first_tested : (o : spec.Object) (os : List spec.Object) (p : Spot) (c : Cell) (cs : List Cell) (t : Bool) → nat_eq o.serial p.serial ≡ t → put_cells (put_cell os p c) (next p) cs ≡ put_cells os p (c ∷ cs) → put_cells (put_cell (o ∷ os) p c) (next p) cs ≡ put_cells (o ∷ os) p (c ∷ cs)
first_tested o os p c cs true e h = simp e refl
first_tested o os p c cs false e h = simp e (ap (λ r. o ∷ r) h)

put_first : (os : List spec.Object) (p : Spot) (c : Cell) (cs : List Cell) → put_cells (put_cell os p c) (next p) cs ≡ put_cells os p (c ∷ cs)
put_first [] p c cs = refl
put_first (o ∷ os) p c cs = first_tested o os p c cs (nat_eq o.serial p.serial) refl (put_first os p c cs)

none_tested : (o : spec.Object) (os : List spec.Object) (p : Spot) (t : Bool) → nat_eq o.serial p.serial ≡ t → put_cells os p [] ≡ os → put_cells (o ∷ os) p [] ≡ o ∷ os
none_tested o os p true e h = rw e refl
none_tested o os p false e h = rw e (ap (λ r. o ∷ r) h)

put_nothing : (os : List spec.Object) (p : Spot) → put_cells os p [] ≡ os
put_nothing [] p = refl
put_nothing (o ∷ os) p = none_tested o os p (nat_eq o.serial p.serial) refl (put_nothing os p)

-- ---- in memory

found_tested : (o : spec.Object) (os : List spec.Object) (p : Spot) (c : Cell) (x : List Cell) (t : Bool) → nat_eq o.serial p.serial ≡ t → (if t then Some o.cells else find_object os p.serial) ≡ Some x → (find_object os p.serial ≡ Some x → (y : List Cell) × (find_object (put_cell os p c) p.serial ≡ Some y)) → (y : List Cell) × (find_object (put_cell (o ∷ os) p c) p.serial ≡ Some y)
found_tested o os p c x true e h go = (with_cell o.cells p.place c, simp e refl)
found_tested o os p c x false e h go = let g = go h in (g.0, simp e g.1)

-- an object is still found when a cell was put into it
found_still : (os : List spec.Object) (p : Spot) (c : Cell) (x : List Cell) → find_object os p.serial ≡ Some x → (y : List Cell) × (find_object (put_cell os p c) p.serial ≡ Some y)
found_still [] p c x h = absurd (grind (arith, h))
found_still (o ∷ os) p c x h = found_tested o os p c x (nat_eq o.serial p.serial) refl h (found_still os p c x)

pub all_some : (cs : List Cell) (m : Memory) (p : Spot) (x : List Cell) → find_object m.variables p.serial ≡ Some x → record m { variables = put_cells m.variables p cs } ≡ put_all m p cs
all_some [] m p x h = ap (λ os. record m { variables = os }) (put_nothing m.variables p)
all_some (c ∷ cs) m p x h =
    let e : put m p c ≡ record m { variables = put_cell m.variables p c } = ap (put_by m p c) h in
    let f = found_still m.variables p c x h in
    ap (λ os. record m { variables = os }) (sym (put_first m.variables p c cs)) ∙ all_some cs (record m { variables = put_cell m.variables p c }) (next p) f.0 f.1 ∙ ap (λ n. put_all n (next p) cs) (sym e)

pub all_none : (cs : List Cell) (m : Memory) (p : Spot) → find_object m.variables p.serial ≡ None → record m { heap = put_cells m.heap p cs } ≡ put_all m p cs
all_none [] m p h = ap (λ os. record m { heap = os }) (put_nothing m.heap p)
all_none (c ∷ cs) m p h =
    let e : put m p c ≡ record m { heap = put_cell m.heap p c } = ap (put_by m p c) h in
    ap (λ os. record m { heap = os }) (sym (put_first m.heap p c cs)) ∙ all_none cs (record m { heap = put_cell m.heap p c }) (next p) h ∙ ap (λ n. put_all n (next p) cs) (sym e)
