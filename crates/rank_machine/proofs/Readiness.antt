-- The objects of a well formed state can come back.
use Rattle.std.proofs.Common.{◌≡◌, ◌≢◌, ℕ, zero, suc, ◌+◌, ◌^◌, ◌<◌, ◌≤◌, Bool, true, false, if◌then◌else◌, List, [], ◌∷◌, ◌++◌, length, map, drop, get_or, Some, None, refl, ap, sym, ◌∙◌, arith}
use Rattle.std.specs.Prelude.{nat_eq, nat_lt}
use Rattle.std.specs.List.{All}
use Rattle.std.proofs.lemmas.Bool.Decides.{nat_tests}
use Rattle.std.proofs.lemmas.List.{drop_more}
use Rattle.c_memory.specs.Memory.{Object, find_object}
use Rattle.c_memory.specs.Order.{IsRising}
use Rattle.c_memory.specs.Resumed.{insert_object, own_serial}
use Rattle.flat_code.specs.declared.code.Code.{Code}
use Rattle.flat_code.specs.Placed.{Block}
use Rattle.image_text.specs.declared.object.SavedObject.{SavedObject}
use Rattle.image_text.specs.declared.state.RankState.{RankState}
use Rattle.rank_machine.specs.Resumed.{AreReady}
use Rattle.rank_machine.specs.Saving.{block_of, object_of}
use Rattle.rank_machine.specs.Tied.{AreApart}
use Rattle.rank_machine.specs.WellFormed.{IsBelow, AreDistinct, IsWellFormed, serial_of}
use Rattle.rank_machine.proofs.Apart.{apart_higher, apart_low}
use Rattle.rank_machine.proofs.Kept.{apart_end}

-- ---- parts of lists

pub all_tail : {X : Type 0} (P : X → Type 0) (x : X) (xs : List X) → All P (x ∷ xs) → All P xs
all_tail P x xs h k d l = h (suc k) d (omega (arith, l))

pub all_head : {X : Type 0} (P : X → Type 0) (x : X) (xs : List X) → All P (x ∷ xs) → P x
all_head P x xs h = h zero x (omega arith)

pub all_right : {X : Type 0} (P : X → Type 0) (xs ys : List X) → All P (xs ++ ys) → All P ys
all_right P [] ys h = h
all_right P (x ∷ xs) ys h = all_right P xs ys (all_tail P x (xs ++ ys) h)

pub all_left : {X : Type 0} (P : X → Type 0) (xs ys : List X) → All P (xs ++ ys) → All P xs
all_left P [] ys h k d l = let no : ⊥ = omega (arith, l) in absurd no
all_left P (x ∷ xs) ys h zero d l = all_head P x (xs ++ ys) h
all_left P (x ∷ xs) ys h (suc k) d l = all_left P xs ys (all_tail P x (xs ++ ys) h) k d (omega (arith, l))

pub distinct_right : (xs ys : List SavedObject) → AreDistinct (xs ++ ys) → AreDistinct ys
distinct_right [] ys h = h
distinct_right (x ∷ xs) ys h = distinct_right xs ys h.1

-- ---- objects

none_by : (o x : Object) (xs more : List Object) (s : ℕ) (t u : Bool) → nat_eq o.serial s ≡ false → (if u then Some x.cells else find_object xs s) ≡ None → nat_eq x.serial s ≡ u → (find_object xs s ≡ None → find_object more s ≡ None) → find_object (if t then o ∷ x ∷ xs else x ∷ more) s ≡ None
none_by o x xs more s t true n h e r = absurd cc
none_by o x xs more s true false n h e r = rw (n, e) h
none_by o x xs more s false false n h e r = rw e (r h)

pub none_inserted : (o : Object) (os : List Object) (s : ℕ) → o.serial ≢ s → find_object os s ≡ None → find_object (insert_object o os) s ≡ None
none_inserted o [] s n h =
    let t : nat_eq o.serial s ≡ false = grind (arith, nat_tests, n) in
    rw t refl
none_inserted o (x ∷ xs) s n h =
    let t : nat_eq o.serial s ≡ false = grind (arith, nat_tests, n) in
    none_by o x xs (insert_object o xs) s (nat_lt o.serial x.serial) (nat_eq x.serial s) t h refl (none_inserted o xs s n)

pub ready_from : (next end : ℕ) (bs : List Block) (heap : List Object) (os : List SavedObject) → AreApart end 0 bs → AreApart 65536 end (map block_of os) → All (λ o. 1 ≤ o.serial) os → All (IsBelow next) os → AreDistinct os → All (λ o. find_object heap o.serial ≡ None) os → AreReady next bs heap os
ready_from next end bs heap [] a b p l d n = tt
ready_from next end bs heap (o ∷ os) a b p l d n =
    let from = b.0 in
    let high = apart_low 65536 (o.place + length o.cells) (map block_of os) b.1 in
    let above : AreApart o.place 0 bs = apart_higher end o.place 0 bs from a in
    let positive = all_head (λ (x : SavedObject). 1 ≤ x.serial) o os p in
    let below = all_head (IsBelow next) o os l in (
      record { above = above; within = high; positive = omega (arith, positive); below = below.0; new = all_head (λ (x : SavedObject). find_object heap x.serial ≡ None) o os n },
      ready_from next (o.place + length o.cells) (bs ++ block_of o ∷ []) (insert_object (object_of o) heap) os (apart_end (o.place + length o.cells) 0 bs (block_of o) above (omega arith)) b.1 (all_tail (λ (x : SavedObject). 1 ≤ x.serial) o os p) (all_tail (IsBelow next) o os l) d.1
          (λ k e m. none_inserted (object_of o) heap _ (λ same. d.0 k e m (sym same)) (all_tail (λ (x : SavedObject). find_object heap x.serial ≡ None) o os n k e m)),
    )

pub ready : (c : Code) (s : RankState) → IsWellFormed c s → AreReady s.serial [] [] s.objects
ready c s h = ready_from s.serial 0 [] [] s.objects (omega arith) h.apart h.positive (all_right (IsBelow s.serial) s.variables s.objects h.below) (distinct_right s.variables s.objects h.distinct) (λ k d l. refl)

-- ---- variables

rising_below : (low high next : ℕ) (vs : List SavedObject) → low ≤ next → IsRising serial_of low vs high → All (IsBelow next) vs → IsRising own_serial low (map object_of vs) next
rising_below low high next [] l h b = l
rising_below low high next (v ∷ vs) l h b =
    let under = all_head (IsBelow next) v vs b in
    let less = under.0 in
    (h.0, rising_below (suc v.serial) high next vs (omega (arith, less)) h.1 (all_tail (IsBelow next) v vs b))

pub rising : (c : Code) (s : RankState) → IsWellFormed c s → IsRising own_serial 1 (map object_of s.variables) s.serial
rising c s h = rising_below 1 (2 ^ 64) s.serial s.variables h.serial h.ascending (all_left (IsBelow s.serial) s.variables s.objects h.below)

-- the element at an index, and those after it
pub next_is : {X : Type 0} (xs : List X) (k : ℕ) (x : X) → k < length xs → x ≡ get_or xs k x → drop k xs ≡ x ∷ drop (k + 1) xs
next_is xs k x l e = drop_more xs k x l ∙ ap (λ y. y ∷ drop (k + 1) xs) (sym e)

-- where one stands among them
pub rising_up_to : (low high : ℕ) (xs : List Object) (x : Object) (ys : List Object) → IsRising own_serial low (xs ++ x ∷ ys) high → IsRising own_serial low xs x.serial
rising_up_to low high [] x ys h = h.0
rising_up_to low high (y ∷ xs) x ys h = (h.0, rising_up_to (suc y.serial) high xs x ys h.1)

rising_low : (low high : ℕ) (xs : List Object) → IsRising own_serial low xs high → low ≤ high
rising_low low high [] h = h
rising_low low high (x ∷ xs) h =
    let from = h.0 in
    let r = rising_low (suc x.serial) high xs h.1 in
    omega (arith, from, r)

pub rising_one : (low high : ℕ) (xs : List Object) (x : Object) (ys : List Object) → IsRising own_serial low (xs ++ x ∷ ys) high → x.serial < high
rising_one low high [] x ys h = let r = rising_low (suc x.serial) high ys h.1 in omega (arith, r)
rising_one low high (y ∷ xs) x ys h = rising_one (suc y.serial) high xs x ys h.1
