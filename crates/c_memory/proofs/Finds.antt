-- What a place among objects says of them.
use Rattle.std.proofs.Common.{◌-◌, replicate, add-one, ◌^◌, ◌≡◌, ℕ, zero, suc, ◌+◌, ◌<◌, ◌≤◌, ◌≢◌, List, [], ◌∷◌, ◌++◌, length, take, drop, remove, get_or, slice_set, Option, Some, None, option_map, refl, sym, ap, subst, arith, nat_eq, Bool, true, false, if◌then◌else◌, pos}
use Rattle.std.proofs.lemmas.Bool.Decides.{nat_tests}
use Rattle.c3_base.specs.declared.cell.Cell.{Cell}
use Rattle.c_memory.specs.declared.object.Object.{Object}
use Rattle.c_memory.specs.declared.spot.Spot.{Spot}
use Rattle.c_memory.specs.Order.{IsRising, place_of}
use Rattle.c_memory.specs.Seen.{serial_of, objects_of, object_of}
use Rattle.c_memory.specs.Memory as spec
use Rattle.std.specs.Prelude.{ℤ, negsuc}
use Rattle.std.proofs.lemmas.List.{length-set, length-drop, take_all, length-replicate}
use Rattle.c_memory.specs.Memory.{find_object, put_cell, zero_object, without, null, with_cell, cells_in, total}

-- a test of two numbers, with what it says
pub data Same (a b : ℕ) : Type 0 where
  same : a ≡ b → nat_eq a b ≡ true → Same a b
  other : a ≢ b → nat_eq a b ≡ false → Same a b

same_by : (a b : ℕ) (t : Bool) → nat_eq a b ≡ t → Same a b
same_by a b true e = same (grind (arith, nat_tests, e)) e
same_by a b false e = other (grind (arith, nat_tests, e)) e

pub same_or : (a b : ℕ) → Same a b
same_or a b = same_by a b (nat_eq a b) refl

-- where a key stands, test by test
abbrev pub StandsAt : {X : Type 0} → (X → ℕ) → List X → ℕ → ℕ → Type 0
StandsAt key [] n i = ⊥
StandsAt key (x ∷ xs) n zero = nat_eq (key x) n ≡ true
StandsAt key (x ∷ xs) n (suc i) = (nat_eq (key x) n ≡ false) × StandsAt key xs n i

abbrev pub Misses : {X : Type 0} → (X → ℕ) → List X → ℕ → Type 0
Misses key [] n = Unit {0}
Misses key (x ∷ xs) n = (nat_eq (key x) n ≡ false) × Misses key xs n

first_stands : {X : Type 0} (key : X → ℕ) (x : X) (xs : List X) (n i : ℕ) (t : Bool) (o : Option ℕ) → nat_eq (key x) n ≡ t → place_of key xs n ≡ o → (if t then Some 0 else option_map suc o) ≡ Some i → ((j : ℕ) → o ≡ Some j → StandsAt key xs n j) → StandsAt key (x ∷ xs) n i
first_stands key x xs n zero true o b e h go = b
first_stands key x xs n (suc i) true o b e h go = absurd (grind (arith, h))
first_stands key x xs n zero false None b e h go = absurd (grind (arith, h))
first_stands key x xs n (suc i) false None b e h go = absurd (grind (arith, h))
first_stands key x xs n zero false (Some j) b e h go = absurd (grind (arith, h))
first_stands key x xs n (suc i) false (Some j) b e h go = let f : j ≡ i = grind (arith, h) in (b, subst (StandsAt key xs n) f (go j refl))

pub stands : {X : Type 0} (key : X → ℕ) (xs : List X) (n i : ℕ) → place_of key xs n ≡ Some i → StandsAt key xs n i
stands key [] n i h = absurd (grind (arith, h))
stands key (x ∷ xs) n i h = first_stands key x xs n i (nat_eq (key x) n) (place_of key xs n) refl refl h (λ j e. stands key xs n j e)

first_misses : {X : Type 0} (key : X → ℕ) (x : X) (xs : List X) (n : ℕ) (t : Bool) (o : Option ℕ) → nat_eq (key x) n ≡ t → (if t then Some 0 else option_map suc o) ≡ None → (o ≡ None → Misses key xs n) → Misses key (x ∷ xs) n
first_misses key x xs n true o b h go = absurd (grind (arith, h))
first_misses key x xs n false None b h go = (b, go refl)
first_misses key x xs n false (Some j) b h go = absurd (grind (arith, h))

pub misses : {X : Type 0} (key : X → ℕ) (xs : List X) (n : ℕ) → place_of key xs n ≡ None → Misses key xs n
misses key [] n h = tt
misses key (x ∷ xs) n h = first_misses key x xs n (nat_eq (key x) n) (place_of key xs n) refl h (misses key xs n)

pub stands_within : {X : Type 0} (key : X → ℕ) (xs : List X) (n i : ℕ) → StandsAt key xs n i → i < length xs
stands_within key [] n i h = absurd h
stands_within key (x ∷ xs) n zero h = omega arith
stands_within key (x ∷ xs) n (suc i) h = let r : i < length xs = stands_within key xs n i h.1 in omega (arith, r)

pub stands_key : {X : Type 0} (key : X → ℕ) (xs : List X) (n i : ℕ) (d : X) → StandsAt key xs n i → key (get_or xs i d) ≡ n
stands_key key [] n i d h = absurd h
stands_key key (x ∷ xs) n zero d h = grind (arith, nat_tests, h)
stands_key key (x ∷ xs) n (suc i) d h = stands_key key xs n i d h.1

pub find_some : (os : List Object) (n i : ℕ) (d : Object) → StandsAt serial_of os n i → find_object (objects_of os) n ≡ Some ((get_or os i d).cells.items)
find_some [] n i d h = absurd h
find_some (o ∷ os) n zero d h = rw h refl
find_some (o ∷ os) n (suc i) d h = rw (h.0, find_some os n i d h.1) refl

pub find_none : (os : List Object) (n : ℕ) → Misses serial_of os n → find_object (objects_of os) n ≡ None
find_none [] n h = refl
find_none (o ∷ os) n h = rw (h.0, find_none os n h.1) refl

pub put_some : (os : List Object) (i : ℕ) (p : Spot) (c : Cell) (d o : Object) → StandsAt serial_of os p.serial i → o.serial ≡ (get_or os i d).serial → o.cells.items ≡ with_cell (get_or os i d).cells.items p.place c → objects_of (slice_set os i o) ≡ put_cell (objects_of os) p c
put_some [] i p c d o h e f = absurd h
put_some (x ∷ os) zero p c d o h e f = rw (h, e, f) refl
put_some (x ∷ os) (suc i) p c d o h e f = rw h.0 (ap (λ r. object_of x ∷ r) (put_some os i p c d o h.1 e f))

pub put_none : (os : List Object) (p : Spot) (c : Cell) → Misses serial_of os p.serial → objects_of os ≡ put_cell (objects_of os) p c
put_none [] p c h = refl
put_none (x ∷ os) p c h = rw h.0 (ap (λ r. object_of x ∷ r) (put_none os p c h.1))

pub without_some : (os : List Object) (n i : ℕ) → StandsAt serial_of os n i → objects_of (remove os i) ≡ without (objects_of os) n
without_some [] n i h = absurd h
without_some (x ∷ os) n zero h = rw h refl
without_some (x ∷ os) n (suc i) h = rw h.0 (ap (λ r. object_of x ∷ r) (without_some os n i h.1))

pub without_none : (os : List Object) (n : ℕ) → Misses serial_of os n → objects_of os ≡ without (objects_of os) n
without_none [] n h = refl
without_none (x ∷ os) n h = rw h.0 (ap (λ r. object_of x ∷ r) (without_none os n h.1))

pub zero_some : (os : List Object) (n i : ℕ) (d o : Object) → StandsAt serial_of os n i → o.serial ≡ (get_or os i d).serial → o.cells.items ≡ replicate (length (get_or os i d).cells.items) null → objects_of (slice_set os i o) ≡ zero_object (objects_of os) n
zero_some [] n i d o h e f = absurd h
zero_some (x ∷ os) n zero d o h e f = rw (h, e, f) refl
zero_some (x ∷ os) n (suc i) d o h e f = rw h.0 (ap (λ r. object_of x ∷ r) (zero_some os n i d o h.1 e f))

pub zero_none : (os : List Object) (n : ℕ) → Misses serial_of os n → objects_of os ≡ zero_object (objects_of os) n
zero_none [] n h = refl
zero_none (x ∷ os) n h = rw h.0 (ap (λ r. object_of x ∷ r) (zero_none os n h.1))

pub rising_from : {X : Type 0} (key : X → ℕ) (low lower : ℕ) (xs : List X) (high : ℕ) → lower ≤ low → IsRising key low xs high → IsRising key lower xs high
rising_from key low lower [] high l h = omega (arith, l, h)
rising_from key low lower (x ∷ xs) high l h = (omega (arith, l, h.0), h.1)

pub rising_to : {X : Type 0} (key : X → ℕ) (low : ℕ) (xs : List X) (high higher : ℕ) → high ≤ higher → IsRising key low xs high → IsRising key low xs higher
rising_to key low [] high higher l h = omega (arith, l, h)
rising_to key low (x ∷ xs) high higher l h = (h.0, rising_to key (suc (key x)) xs high higher l h.1)

pub rising_set : {X : Type 0} (key : X → ℕ) (low : ℕ) (xs : List X) (high i : ℕ) (d y : X) → key y ≡ key (get_or xs i d) → IsRising key low xs high → IsRising key low (slice_set xs i y) high
rising_set key low [] high i d y e h = h
rising_set key low (x ∷ xs) high zero d y e h = subst (λ k. (low ≤ k) × IsRising key (suc k) xs high) (sym e) h
rising_set key low (x ∷ xs) high (suc i) d y e h = (h.0, rising_set key (suc (key x)) xs high i d y e h.1)

pub rising_remove : {X : Type 0} (key : X → ℕ) (low : ℕ) (xs : List X) (high i : ℕ) → IsRising key low xs high → IsRising key low (remove xs i) high
rising_remove key low [] high zero h = h
rising_remove key low [] high (suc i) h = h
rising_remove key low (x ∷ xs) high zero h = rising_from key (suc (key x)) low xs high (let l : low ≤ key x = h.0 in omega (arith, l)) h.1
rising_remove key low (x ∷ xs) high (suc i) h = (h.0, rising_remove key (suc (key x)) xs high i h.1)

-- the cells of objects, added up from the left
pub cells_more : (os : List Object) (i : ℕ) (d : Object) → i < length os → cells_in (objects_of (take (suc i) os)) ≡ cells_in (objects_of (take i os)) + length (get_or os i d).cells.items
cells_more [] i d l = let no : ⊥ = omega (arith, l) in absurd no
cells_more (o ∷ os) zero d l = omega arith
cells_more (o ∷ os) (suc i) d l = let r : cells_in (objects_of (take (suc i) os)) ≡ cells_in (objects_of (take i os)) + length (get_or os i d).cells.items = cells_more os i d (omega (arith, l)) in omega (arith, r)

pub cells_part : (os : List Object) (i : ℕ) → cells_in (objects_of (take i os)) ≤ cells_in (objects_of os)
cells_part [] zero = omega arith
cells_part [] (suc i) = omega arith
cells_part (o ∷ os) zero = omega arith
cells_part (o ∷ os) (suc i) = let r : cells_in (objects_of (take i os)) ≤ cells_in (objects_of os) = cells_part os i in omega (arith, r)

pub cells_one : (os : List Object) (i : ℕ) (d : Object) → i < length os → cells_in (objects_of (take (i + 1) os)) ≡ cells_in (objects_of (take i os)) + length (get_or os i d).cells.items
cells_one os i d l = rw (add-one i) (cells_more os i d l)

pub with_length : (cells : List Cell) (p : ℤ) (c : Cell) → length (with_cell cells p c) ≡ length cells
with_length cells (pos n) c = length-set cells n c
with_length cells (negsuc n) c = refl

put_tested : (o : spec.Object) (os : List spec.Object) (p : Spot) (c : Cell) (t : Bool) → nat_eq o.serial p.serial ≡ t → cells_in (put_cell os p c) ≡ cells_in os → cells_in (put_cell (o ∷ os) p c) ≡ cells_in (o ∷ os)
put_tested o os p c true e h = rw e (ap (λ k. k + cells_in os) (with_length o.cells p.place c))
put_tested o os p c false e h = rw e (ap (λ k. length o.cells + k) h)

pub cells_put : (os : List spec.Object) (p : Spot) (c : Cell) → cells_in (put_cell os p c) ≡ cells_in os
cells_put [] p c = refl
cells_put (o ∷ os) p c = put_tested o os p c (nat_eq o.serial p.serial) refl (cells_put os p c)

pub cells_without : (os : List Object) (n i : ℕ) (d : Object) → StandsAt serial_of os n i → cells_in (without (objects_of os) n) + length (get_or os i d).cells.items ≡ cells_in (objects_of os)
cells_without [] n i d h = absurd h
cells_without (o ∷ os) n zero d h = rw h (omega arith)
cells_without (o ∷ os) n (suc i) d h = rw h.0 (let r : cells_in (without (objects_of os) n) + length (get_or os i d).cells.items ≡ cells_in (objects_of os) = cells_without os n i d h.1 in omega (arith, r))

zero_tested : (o : spec.Object) (os : List spec.Object) (n : ℕ) (t : Bool) → nat_eq o.serial n ≡ t → cells_in (zero_object os n) ≡ cells_in os → cells_in (zero_object (o ∷ os) n) ≡ cells_in (o ∷ os)
zero_tested o os n true e h = rw e (ap (λ k. k + cells_in os) (length-replicate (length o.cells) null))
zero_tested o os n false e h = rw e (ap (λ k. length o.cells + k) h)

pub cells_zero : (os : List spec.Object) (n : ℕ) → cells_in (zero_object os n) ≡ cells_in os
cells_zero [] n = refl
cells_zero (o ∷ os) n = zero_tested o os n (nat_eq o.serial n) refl (cells_zero os n)

pub rising_wide : {X : Type 0} (key : X → ℕ) (xs : List X) (high : ℕ) → IsRising key 1 xs high → high < 2 ^ 64 → IsRising key 0 xs (2 ^ 64)
rising_wide key xs high h l = rising_from key 1 0 xs (2 ^ 64) (omega arith) (rising_to key 1 xs high (2 ^ 64) (omega (arith, l)) h)

pub rising_more : {X : Type 0} (key : X → ℕ) (low : ℕ) (xs : List X) (high : ℕ) (y : X) → key y ≡ high → IsRising key low xs high → IsRising key low (xs ++ y ∷ []) (high + 1)
rising_more key low [] high y e h = (omega (arith, e, h), omega (arith, e))
rising_more key low (x ∷ xs) high y e h = (h.0, rising_more key (suc (key x)) xs high y e h.1)

pub cells_append : (os : List Object) (o : Object) → cells_in (objects_of (os ++ o ∷ [])) ≡ cells_in (objects_of os) + length o.cells.items
cells_append [] o = omega arith
cells_append (x ∷ os) o = let r : cells_in (objects_of (os ++ o ∷ [])) ≡ cells_in (objects_of os) + length o.cells.items = cells_append os o in omega (arith, r)

pub objects_append : (os : List Object) (o : Object) → objects_of (os ++ o ∷ []) ≡ objects_of os ++ object_of o ∷ []
objects_append [] o = refl
objects_append (x ∷ os) o = ap (λ r. object_of x ∷ r) (objects_append os o)

pub cells_split : (os : List Object) (k : ℕ) → cells_in (objects_of (take k os)) + cells_in (objects_of (drop k os)) ≡ cells_in (objects_of os)
cells_split [] zero = omega arith
cells_split [] (suc k) = omega arith
cells_split (o ∷ os) zero = omega arith
cells_split (o ∷ os) (suc k) = let r : cells_in (objects_of (take k os)) + cells_in (objects_of (drop k os)) ≡ cells_in (objects_of os) = cells_split os k in omega (arith, r)

pub objects_take : (k : ℕ) (os : List Object) → objects_of (take k os) ≡ take k (objects_of os)
objects_take zero [] = refl
objects_take zero (o ∷ os) = refl
objects_take (suc k) [] = refl
objects_take (suc k) (o ∷ os) = ap (λ r. object_of o ∷ r) (objects_take k os)

pub rising_low : {X : Type 0} (key : X → ℕ) (low : ℕ) (xs : List X) (high : ℕ) → IsRising key low xs high → low ≤ high
rising_low key low [] high h = h
rising_low key low (x ∷ xs) high h = let r : suc (key x) ≤ high = rising_low key (suc (key x)) xs high h.1 in omega (arith, r, h.0)

pub rising_take : {X : Type 0} (key : X → ℕ) (low : ℕ) (xs : List X) (high k : ℕ) → IsRising key low xs high → IsRising key low (take k xs) high
rising_take key low [] high zero h = h
rising_take key low [] high (suc k) h = h
rising_take key low (x ∷ xs) high zero h = rising_low key low (x ∷ xs) high h
rising_take key low (x ∷ xs) high (suc k) h = (h.0, rising_take key (suc (key x)) xs high k h.1)

-- sums of numbers
total_more : (ns : List ℕ) (i d : ℕ) → i < length ns → total (take (suc i) ns) ≡ total (take i ns) + get_or ns i d
total_more [] i d l = let no : ⊥ = omega (arith, l) in absurd no
total_more (n ∷ ns) zero d l = omega arith
total_more (n ∷ ns) (suc i) d l = let r : total (take (suc i) ns) ≡ total (take i ns) + get_or ns i d = total_more ns i d (omega (arith, l)) in omega (arith, r)

pub total_one : (ns : List ℕ) (i d : ℕ) → i < length ns → total (take (i + 1) ns) ≡ total (take i ns) + get_or ns i d
total_one ns i d l = rw (add-one i) (total_more ns i d l)

pub total_part : (ns : List ℕ) (i : ℕ) → total (take i ns) ≤ total ns
total_part [] zero = omega arith
total_part [] (suc i) = omega arith
total_part (n ∷ ns) zero = omega arith
total_part (n ∷ ns) (suc i) = let r : total (take i ns) ≤ total ns = total_part ns i in omega (arith, r)

pub drop_slice : {X : Type 0} (xs : List X) (k : ℕ) → take (length xs - k) (drop k xs) ≡ drop k xs
drop_slice xs k = take_all (length xs - k) (drop k xs) (let e : length (drop k xs) ≡ length xs - k = length-drop k xs in omega (arith, e))
