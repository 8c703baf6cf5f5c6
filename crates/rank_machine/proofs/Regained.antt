-- A machine that got a state back has that state.
use Rattle.std.proofs.Common.{◌≡◌, ◌≢◌, ℕ, zero, suc, ◌<◌, ◌≤◌, Bool, true, false, if◌then◌else◌, List, [], ◌∷◌, ◌++◌, length, map, reverse, get_or, Option, Some, None, refl, ap, sym, ◌∙◌, arith}
use Rattle.std.specs.Prelude.{nat_eq, nat_lt, unwrap_or}
use Rattle.std.specs.List.{All}
use Rattle.std.proofs.lemmas.Bool.Decides.{nat_tests}
use Rattle.c3_base.specs.declared.cell.Cell.{Cell}
use Rattle.c_memory.specs.Memory.{Memory, Object, cells_of, either_of, find_object}
use Rattle.c_memory.specs.Resumed.{insert_object}
use Rattle.flat_code.specs.declared.code.Code.{Code}
use Rattle.flat_code.specs.Machine.{Machine}
use Rattle.flat_code.specs.Restart.{Restarting, put_back}
use Rattle.image_text.specs.declared.object.SavedObject.{SavedObject}
use Rattle.image_text.specs.declared.state.RankState.{RankState}
use Rattle.rank_machine.specs.Layout.{Layout}
use Rattle.rank_machine.specs.Saving.{among, block_of, by_serials, object_of, phase_number, phase_of, saved_by, standing_at, state_with}
use Rattle.rank_machine.specs.WellFormed.{AreDistinct, IsWellFormed}
use Rattle.rank_machine.proofs.Readiness.{all_head, all_left, all_right, all_tail, distinct_right, none_inserted}

pub same_phase : (n : ℕ) → n ≤ 2 → phase_number (phase_of n) ≡ n
same_phase zero l = refl
same_phase (suc zero) l = refl
same_phase (suc (suc zero)) l = refl
same_phase (suc (suc (suc n))) l = let no : ⊥ = omega (arith, l) in absurd no

-- ---- an object is found by its serial

found : (os : List SavedObject) → AreDistinct os → All (λ o. find_object (map object_of os) o.serial ≡ Some o.cells) os
found [] h k d l = let no : ⊥ = omega (arith, l) in absurd no
found (o ∷ os) h zero d l =
    let t : nat_eq o.serial o.serial ≡ true = grind (arith, nat_tests) in
    rw t refl
found (o ∷ os) h (suc k) d l =
    let m : k < length os = omega (arith, l) in
    let n : (get_or os k d).serial ≢ o.serial = h.0 k d m in
    let t : nat_eq o.serial (get_or os k d).serial ≡ false = grind (arith, nat_tests, n) in
    rw t (found os h.1 k d m)

strange : (vs os : List SavedObject) → AreDistinct (vs ++ os) → All (λ o. find_object (map object_of vs) o.serial ≡ None) os
strange [] os h k d l = refl
strange (v ∷ vs) os h k d l =
    let n : (get_or os k d).serial ≢ v.serial = all_right (λ (x : SavedObject). x.serial ≢ v.serial) vs os h.0 k d l in
    let t : nat_eq v.serial (get_or os k d).serial ≡ false = grind (arith, nat_tests, n) in
    rw t (strange vs os h.1 k d l)

distinct_left : (xs ys : List SavedObject) → AreDistinct (xs ++ ys) → AreDistinct xs
distinct_left [] ys h = tt
distinct_left (x ∷ xs) ys h = (all_left (λ (o : SavedObject). o.serial ≢ x.serial) xs ys h.0, distinct_left xs ys h.1)

-- ---- among others

new_by : (o x : Object) (xs more : List Object) (t u : Bool) → (if u then Some x.cells else find_object xs o.serial) ≡ None → nat_eq x.serial o.serial ≡ u → (find_object xs o.serial ≡ None → find_object more o.serial ≡ Some o.cells) → find_object (if t then o ∷ x ∷ xs else x ∷ more) o.serial ≡ Some o.cells
new_by o x xs more t true h e r = absurd cc
new_by o x xs more true false h e r =
    let s : nat_eq o.serial o.serial ≡ true = grind (arith, nat_tests) in
    rw s refl
new_by o x xs more false false h e r = rw e (r h)

find_new : (o : Object) (os : List Object) → find_object os o.serial ≡ None → find_object (insert_object o os) o.serial ≡ Some o.cells
find_new o [] h =
    let s : nat_eq o.serial o.serial ≡ true = grind (arith, nat_tests) in
    rw s refl
find_new o (x ∷ xs) h = new_by o x xs (insert_object o xs) (nat_lt o.serial x.serial) (nat_eq x.serial o.serial) h refl (find_new o xs)

old_by : (o x : Object) (xs more : List Object) (s : ℕ) (c : List Cell) (t u : Bool) → nat_eq o.serial s ≡ false → nat_eq x.serial s ≡ u → (if u then Some x.cells else find_object xs s) ≡ Some c → (find_object xs s ≡ Some c → find_object more s ≡ Some c) → find_object (if t then o ∷ x ∷ xs else x ∷ more) s ≡ Some c
old_by o x xs more s c true u n e h r = rw (n, e) h
old_by o x xs more s c false true n e h r = rw e h
old_by o x xs more s c false false n e h r = rw e (r h)

find_old : (o : Object) (os : List Object) (s : ℕ) (c : List Cell) → o.serial ≢ s → find_object os s ≡ Some c → find_object (insert_object o os) s ≡ Some c
find_old o [] s c n h = absurd cc
find_old o (x ∷ xs) s c n h =
    let t : nat_eq o.serial s ≡ false = grind (arith, nat_tests, n) in
    old_by o x xs (insert_object o xs) s c (nat_lt o.serial x.serial) (nat_eq x.serial s) t refl h (find_old o xs s c n)

found_old : (done : List Object) (os : List SavedObject) (s : ℕ) (c : List Cell) → All (λ o. o.serial ≢ s) os → find_object done s ≡ Some c → find_object (among done (map object_of os)) s ≡ Some c
found_old done [] s c n h = h
found_old done (o ∷ os) s c n h = found_old (insert_object (object_of o) done) os s c (all_tail (λ (x : SavedObject). x.serial ≢ s) o os n) (find_old (object_of o) done s c (all_head (λ (x : SavedObject). x.serial ≢ s) o os n) h)

found_among : (done : List Object) (os : List SavedObject) → AreDistinct os → All (λ o. find_object done o.serial ≡ None) os → All (λ o. find_object (among done (map object_of os)) o.serial ≡ Some o.cells) os
found_among done [] h n k d l = let no : ⊥ = omega (arith, l) in absurd no
found_among done (o ∷ os) h n zero d l = found_old (insert_object (object_of o) done) os o.serial o.cells h.0 (find_new (object_of o) done (all_head (λ (x : SavedObject). find_object done x.serial ≡ None) o os n))
found_among done (o ∷ os) h n (suc k) d l =
    found_among (insert_object (object_of o) done) os h.1
    (λ j e m. none_inserted (object_of o) done (get_or os j e).serial (λ same. h.0 j e m (sym same)) (all_tail (λ (x : SavedObject). find_object done x.serial ≡ None) o os n j e m))
    k d (omega (arith, l))

-- ---- what stands where

pub stands : (m : Memory) (os : List SavedObject) → All (λ o. cells_of m o.serial ≡ Some o.cells) os → map (standing_at m) (map block_of os) ≡ os
stands m [] h = refl
stands m (o ∷ os) h =
    let first : standing_at m (block_of o) ≡ o = ap (λ (c : Option (List Cell)). record { serial = o.serial; place = o.place; cells = unwrap_or c [] }) (all_head (λ (x : SavedObject). cells_of m x.serial ≡ Some x.cells) o os h) in
    ap (λ (x : SavedObject). x ∷ map (standing_at m) (map block_of os)) first ∙ ap (λ (xs : List SavedObject). o ∷ xs) (stands m os (all_tail (λ (x : SavedObject). cells_of m x.serial ≡ Some x.cells) o os h))

pub same_variables : (c : Code) (s : RankState) (m : Memory) → IsWellFormed c s → m.variables ≡ map object_of s.variables → map (standing_at m) (map block_of s.variables) ≡ s.variables
same_variables c s m h e = stands m s.variables (λ k d l.
    let n = (get_or s.variables k d).serial in
    let here : find_object m.variables n ≡ Some (get_or s.variables k d).cells = ap (λ (vs : List Object). find_object vs n) e ∙ found s.variables (distinct_left s.variables s.objects h.distinct) k d l in
    ap (λ (f : Option (List Cell)). either_of f (find_object m.heap n)) here)

pub same_objects : (c : Code) (s : RankState) (m : Memory) → IsWellFormed c s → m.variables ≡ map object_of s.variables → m.heap ≡ by_serials (map object_of s.objects) → map (standing_at m) (map block_of s.objects) ≡ s.objects
same_objects c s m h e f = stands m s.objects (λ k d l.
    let n = (get_or s.objects k d).serial in
    let none : find_object m.variables n ≡ None = ap (λ (vs : List Object). find_object vs n) e ∙ strange s.variables s.objects h.distinct k d l in
    let here : find_object m.heap n ≡ Some (get_or s.objects k d).cells = ap (λ (os : List Object). find_object os n) f ∙ found_among [] s.objects (distinct_right s.variables s.objects h.distinct) (λ j x i. refl) k d l in
    ap (λ (g : Option (List Cell)). either_of g (find_object m.heap n)) none ∙ here)

-- ---- the whole state

pub state_back : (c : Code) (s : RankState) (m : Machine) (l : Layout) (r : Restarting) → IsWellFormed c s → s.sites ≡ reverse r.machine.sites → m ≡ put_back (saved_by s) r → l ≡ record { stack = map block_of s.variables; heap = map block_of s.objects } → state_with (record { machine = m; stack = l.stack; heap = l.heap }) s.calls ≡ s
state_back c s m l r h sites e f =
    let kept = (put_back (saved_by s) r).memory in
    let variables : map (standing_at kept) (map block_of s.variables) ≡ s.variables = same_variables c s kept h refl in
    let objects : map (standing_at kept) (map block_of s.objects) ≡ s.objects = same_objects c s kept h refl refl in
    let phase : phase_number (phase_of s.phase) ≡ s.phase = same_phase s.phase h.phase in
    rw (e, f, variables, objects, phase, ← sites) refl
