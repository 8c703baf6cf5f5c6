-- Objects by their serials and how many cells they have.
use Rattle.std.proofs.Common.{◌≡◌, ◌≢◌, ℕ, ◌+◌, ◌<◌, ◌≤◌, Bool, true, false, if◌then◌else◌, List, [], ◌∷◌, ◌++◌, Some, None, refl, arith}
use Rattle.std.specs.Prelude.{nat_eq}
use Rattle.std.proofs.lemmas.Bool.Decides.{nat_tests}
use Rattle.rank_machine.specs.Tied.{Size, cells_at, without_size, AreBelow}

abbrev pub total : List Size → ℕ
total [] = 0
total (o ∷ os) = o.cells + total os

-- ---- one is gone

at_other : (o : Size) (s t : ℕ) (a : Bool) (os others : List Size) → nat_eq o.serial s ≡ a → s ≢ t → cells_at others t ≡ cells_at os t → cells_at (if a then os else o ∷ others) t ≡ cells_at (o ∷ os) t
at_other o s t true os others e n r =
    let same : o.serial ≡ s = grind (arith, nat_tests, e) in
    let f : nat_eq o.serial t ≡ false = grind (arith, nat_tests, same, n) in
    rw f refl
at_other o s t false os others e n r = rw r refl

pub at_without : (os : List Size) (s t : ℕ) → s ≢ t → cells_at (without_size os s) t ≡ cells_at os t
at_without [] s t n = refl
at_without (o ∷ os) s t n = at_other o s t (nat_eq o.serial s) os (without_size os s) refl n (at_without os s t n)

none_if : (o : Size) (s t : ℕ) (a b : Bool) (os others : List Size) → nat_eq o.serial s ≡ b → (if b then Some o.cells else cells_at os s) ≡ None → (cells_at os s ≡ None → cells_at others s ≡ None) → cells_at (if a then os else o ∷ others) s ≡ None
none_if o s t a true os others e h r = absurd cc
none_if o s t true false os others e h r = h
none_if o s t false false os others e h r = rw e (r h)

pub none_without : (os : List Size) (s t : ℕ) → cells_at os s ≡ None → cells_at (without_size os t) s ≡ None
none_without [] s t h = refl
none_without (o ∷ os) s t h = none_if o s t (nat_eq o.serial t) (nat_eq o.serial s) os (without_size os t) refl h (none_without os s t)

same_by : (o : Size) (s : ℕ) (a : Bool) (os others : List Size) → (if a then Some o.cells else cells_at os s) ≡ None → (cells_at os s ≡ None → others ≡ os) → (if a then os else o ∷ others) ≡ o ∷ os
same_by o s true os others h r = absurd cc
same_by o s false os others h r = rw (r h) refl

pub without_none : (os : List Size) (s : ℕ) → cells_at os s ≡ None → without_size os s ≡ os
without_none [] s h = refl
without_none (o ∷ os) s h = same_by o s (nat_eq o.serial s) os (without_size os s) h (without_none os s)

swap_by : (o : Size) (s t : ℕ) (a b : Bool) (os : List Size) → nat_eq o.serial s ≡ a → nat_eq o.serial t ≡ b → s ≢ t → without_size (without_size os s) t ≡ without_size (without_size os t) s → without_size (if a then os else o ∷ without_size os s) t ≡ without_size (if b then os else o ∷ without_size os t) s
swap_by o s t true true os e f n r = absurd (grind (arith, nat_tests, e, f, n))
swap_by o s t true false os e f n r = rw e refl
swap_by o s t false true os e f n r = rw f refl
swap_by o s t false false os e f n r = rw (e, f, r) refl

pub swapped : (os : List Size) (s t : ℕ) → s ≢ t → without_size (without_size os s) t ≡ without_size (without_size os t) s
swapped [] s t n = refl
swapped (o ∷ os) s t n = swap_by o s t (nat_eq o.serial s) (nat_eq o.serial t) os refl refl n (swapped os s t n)

total_by : (o : Size) (s n : ℕ) (a : Bool) (os others : List Size) → (if a then Some o.cells else cells_at os s) ≡ Some n → (cells_at os s ≡ Some n → total os ≡ n + total others) → o.cells + total os ≡ n + total (if a then os else o ∷ others)
total_by o s n true os others h r = let e : o.cells ≡ n = cc in omega (arith, e)
total_by o s n false os others h r = let e = r h in omega (arith, e)

pub total_without : (os : List Size) (s n : ℕ) → cells_at os s ≡ Some n → total os ≡ n + total (without_size os s)
total_without [] s n h = absurd cc
total_without (o ∷ os) s n h = total_by o s n (nat_eq o.serial s) os (without_size os s) h (total_without os s n)

-- ---- one more

new_by : (x o : Size) (a : Bool) (os more : List Size) → (if a then Some x.cells else cells_at os o.serial) ≡ None → (cells_at os o.serial ≡ None → cells_at more o.serial ≡ Some o.cells) → (if a then Some x.cells else cells_at more o.serial) ≡ Some o.cells
new_by x o true os more h r = absurd cc
new_by x o false os more h r = r h

pub at_new : (os : List Size) (o : Size) → cells_at os o.serial ≡ None → cells_at (os ++ o ∷ []) o.serial ≡ Some o.cells
at_new [] o h = let t : nat_eq o.serial o.serial ≡ true = grind (arith, nat_tests) in rw t refl
at_new (x ∷ os) o h = new_by x o (nat_eq x.serial o.serial) os (os ++ o ∷ []) h (at_new os o)

old_by : (x : Size) (s n : ℕ) (a : Bool) (os more : List Size) → (if a then Some x.cells else cells_at os s) ≡ Some n → (cells_at os s ≡ Some n → cells_at more s ≡ Some n) → (if a then Some x.cells else cells_at more s) ≡ Some n
old_by x s n true os more h r = h
old_by x s n false os more h r = r h

pub at_old : (os : List Size) (o : Size) (s n : ℕ) → cells_at os s ≡ Some n → cells_at (os ++ o ∷ []) s ≡ Some n
at_old [] o s n h = absurd cc
at_old (x ∷ os) o s n h = old_by x s n (nat_eq x.serial s) os (os ++ o ∷ []) h (at_old os o s n)

newest_by : (x o : Size) (a : Bool) (os others : List Size) → (if a then Some x.cells else cells_at os o.serial) ≡ None → (cells_at os o.serial ≡ None → others ≡ os) → (if a then os ++ o ∷ [] else x ∷ others) ≡ x ∷ os
newest_by x o true os others h r = absurd cc
newest_by x o false os others h r = rw (r h) refl

pub without_new : (os : List Size) (o : Size) → cells_at os o.serial ≡ None → without_size (os ++ o ∷ []) o.serial ≡ os
without_new [] o h = let t : nat_eq o.serial o.serial ≡ true = grind (arith, nat_tests) in rw t refl
without_new (x ∷ os) o h = newest_by x o (nat_eq x.serial o.serial) os (without_size (os ++ o ∷ []) o.serial) h (without_new os o)

oldest_by : (x o : Size) (s n : ℕ) (a : Bool) (os others more : List Size) → (if a then Some x.cells else cells_at os s) ≡ Some n → (cells_at os s ≡ Some n → more ≡ others ++ o ∷ []) → (if a then os ++ o ∷ [] else x ∷ more) ≡ (if a then os else x ∷ others) ++ o ∷ []
oldest_by x o s n true os others more h r = refl
oldest_by x o s n false os others more h r = rw (r h) refl

pub without_old : (os : List Size) (o : Size) (s n : ℕ) → cells_at os s ≡ Some n → without_size (os ++ o ∷ []) s ≡ without_size os s ++ o ∷ []
without_old [] o s n h = absurd cc
without_old (x ∷ os) o s n h = oldest_by x o s n (nat_eq x.serial s) os (without_size os s) (without_size (os ++ o ∷ []) s) h (without_old os o s n)

-- ---- serials

pub below_none : (next s : ℕ) (os : List Size) → AreBelow next os → next ≤ s → cells_at os s ≡ None
below_none next s [] h l = refl
below_none next s (o ∷ os) h l =
    let low = h.1 in
    let t : nat_eq o.serial s ≡ false = grind (arith, nat_tests, low, l) in
    rw t (below_none next s os h.2 l)

pub none_at_zero : (next : ℕ) (os : List Size) → AreBelow next os → cells_at os 0 ≡ None
none_at_zero next [] h = refl
none_at_zero next (o ∷ os) h =
    let low = h.0 in
    let t : nat_eq o.serial 0 ≡ false = grind (arith, nat_tests, low) in
    rw t (none_at_zero next os h.2)

pub below_more : (next more : ℕ) (os : List Size) → next ≤ more → AreBelow next os → AreBelow more os
below_more next more [] l h = omega (arith, l, h)
below_more next more (o ∷ os) l h = let high = h.1 in (h.0, omega (arith, l, high), below_more next more os l h.2)

pub below_push : (next more n : ℕ) (os : List Size) → next < more → AreBelow next os → AreBelow more (os ++ record { serial = next; cells = n } ∷ [])
below_push next more n [] l h = (h, l, omega (arith, l, h))
below_push next more n (o ∷ os) l h = let high = h.1 in (h.0, omega (arith, l, high), below_push next more n os l h.2)

below_if : (next : ℕ) (o : Size) (os others : List Size) (t : Bool) → AreBelow next (o ∷ os) → AreBelow next others → AreBelow next (if t then os else o ∷ others)
below_if next o os others true h r = h.2
below_if next o os others false h r = (h.0, h.1, r)

pub below_without : (next s : ℕ) (os : List Size) → AreBelow next os → AreBelow next (without_size os s)
below_without next s [] h = h
below_without next s (o ∷ os) h = below_if next o os (without_size os s) (nat_eq o.serial s) h (below_without next s os h.2)
