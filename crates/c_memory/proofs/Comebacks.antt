-- Objects that come back among others by ascending serials.
use Rattle.std.proofs.Common.{◌≡◌, ◌≢◌, ℕ, zero, suc, ◌+◌, ◌-◌, ◌<◌, ◌≤◌, ◌^◌, Bool, true, false, if◌then◌else◌, List, [], ◌∷◌, ◌++◌, length, take, drop, get_or, Some, None, refl, ap, arith}
use Rattle.std.specs.Prelude.{nat_eq, nat_lt}
use Rattle.std.proofs.lemmas.Bool.Decides.{nat_tests}
use Rattle.c_memory.specs.Memory as spec
use Rattle.c_memory.specs.Memory.{cells_in, find_object}
use Rattle.c_memory.specs.Order.{IsRising}
use Rattle.c_memory.specs.Resumed.{insert_object, own_serial}
use Rattle.c_memory.specs.Seen.{object_of, objects_of, serial_of}
use Rattle.c_memory.specs.declared.object.Object.{Object}
use Rattle.c_memory.proofs.Places.{any_default, up_to}

-- ---- where one comes

pub inserted : (os : List Object) (i : ℕ) (o : Object) → ((k : ℕ) (d : Object) → k < i → (get_or os k d).serial ≤ o.serial) → ((k : ℕ) (d : Object) → i ≤ k → k < length os → o.serial < (get_or os k d).serial) → i ≤ length os → objects_of (take i os ++ o ∷ drop i os) ≡ insert_object (object_of o) (objects_of os)
inserted [] zero o below above l = refl
inserted [] (suc i) o below above l = let no : ⊥ = omega (arith, l) in absurd no
inserted (x ∷ xs) zero o below above l =
    let p : o.serial < x.serial = above zero o (omega arith) (omega arith) in
    let t : nat_lt o.serial x.serial ≡ true = grind (arith, nat_tests, p) in
    rw t refl
inserted (x ∷ xs) (suc i) o below above l =
    let p : x.serial ≤ o.serial = below zero o (omega arith) in
    let t : nat_lt o.serial x.serial ≡ false = grind (arith, nat_tests, p) in
    let r : objects_of (take i xs ++ o ∷ drop i xs) ≡ insert_object (object_of o) (objects_of xs) = inserted xs i o (λ k d m. below (suc k) d (omega (arith, m))) (λ k d m n. above (suc k) d (omega (arith, m)) (omega (arith, n))) (omega (arith, l)) in
    rw (t, r) refl

-- where one has a serial that isn't greater, those before it have none
pub up_from : (os : List Object) (i : ℕ) (y : Object) (s : ℕ) → IsRising serial_of 0 os (2 ^ 64) → 0 < i → i ≤ length os → (get_or os (i - 1) y).serial ≤ s → (k : ℕ) (d : Object) → k < i → (get_or os k d).serial ≤ s
up_from os i y s h some l low k d m =
    let r : (get_or os k y).serial ≤ (get_or os (i - 1) y).serial = up_to serial_of 0 os (2 ^ 64) h k (i - 1) y (omega (arith, m)) (omega (arith, some, l)) in
    let same : (get_or os k d).serial ≡ (get_or os k y).serial = ap serial_of (any_default os k d y (omega (arith, m, l))) in
    omega (arith, r, low, same)

-- ---- both ways of seeing objects

pub rising_seen : (low high : ℕ) (os : List Object) → IsRising serial_of low os high → IsRising own_serial low (objects_of os) high
rising_seen low high [] h = h
rising_seen low high (o ∷ os) h = (h.0, rising_seen (suc o.serial) high os h.1)

pub rising_unseen : (low high : ℕ) (os : List Object) → IsRising own_serial low (objects_of os) high → IsRising serial_of low os high
rising_unseen low high [] h = h
rising_unseen low high (o ∷ os) h = (h.0, rising_unseen (suc o.serial) high os h.1)

-- ---- what an insertion keeps

cells_by : (o x : spec.Object) (xs more : List spec.Object) (t : Bool) → cells_in more ≡ length o.cells + cells_in xs → cells_in (if t then o ∷ x ∷ xs else x ∷ more) ≡ length o.cells + cells_in (x ∷ xs)
cells_by o x xs more true r = refl
cells_by o x xs more false r = omega (arith, r)

pub cells_inserted : (o : spec.Object) (os : List spec.Object) → cells_in (insert_object o os) ≡ length o.cells + cells_in os
cells_inserted o [] = refl
cells_inserted o (x ∷ xs) = cells_by o x xs (insert_object o xs) (nat_lt o.serial x.serial) (cells_inserted o xs)

rising_by : (low high : ℕ) (o x : spec.Object) (xs more : List spec.Object) (t : Bool) → nat_lt o.serial x.serial ≡ t → low ≤ o.serial → x.serial ≢ o.serial → IsRising own_serial low (x ∷ xs) high → (suc x.serial ≤ o.serial → IsRising own_serial (suc x.serial) more high) → IsRising own_serial low (if t then o ∷ x ∷ xs else x ∷ more) high
rising_by low high o x xs more true e l n h r =
    let p : suc o.serial ≤ x.serial = grind (arith, nat_tests, e) in
    (l, (p, h.1))
rising_by low high o x xs more false e l n h r =
    let p : suc x.serial ≤ o.serial = grind (arith, nat_tests, e, n) in
    (h.0, r p)

new_first : (x : spec.Object) (xs : List spec.Object) (s : ℕ) (t : Bool) → nat_eq x.serial s ≡ t → (if t then Some x.cells else find_object xs s) ≡ None → (x.serial ≢ s) × (find_object xs s ≡ None)
new_first x xs s true e h = absurd cc
new_first x xs s false e h = (grind (arith, nat_tests, e), h)

pub rising_inserted : (low high : ℕ) (o : spec.Object) (os : List spec.Object) → low ≤ o.serial → o.serial < high → find_object os o.serial ≡ None → IsRising own_serial low os high → IsRising own_serial low (insert_object o os) high
rising_inserted low high o [] l m n h = (l, m)
rising_inserted low high o (x ∷ xs) l m n h =
    let both = new_first x xs o.serial (nat_eq x.serial o.serial) refl n in
    rising_by low high o x xs (insert_object o xs) (nat_lt o.serial x.serial) refl l both.0 h (λ p. rising_inserted (suc x.serial) high o xs p m both.1 h.1)
