-- An object of malloc that comes back stands above the others, and its serial is among theirs.
use Rattle.std.proofs.Common.{◌≡◌, ◌≢◌, ℕ, ◌+◌, ◌<◌, ◌≤◌, Bool, true, false, if◌then◌else◌, List, [], ◌∷◌, ◌++◌, length, Some, None, refl, ap, sym, ◌∙◌, subst, arith}
use Rattle.std.specs.Prelude.{nat_eq, nat_lt}
use Rattle.std.proofs.lemmas.Bool.Decides.{nat_tests}
use Rattle.c_memory.specs.Memory.{Object, Memory, cells_in, find_object}
use Rattle.c_memory.specs.Resumed.{insert_object}
use Rattle.flat_code.specs.Placed.{Block}
use Rattle.image_text.specs.declared.object.SavedObject.{SavedObject}
use Rattle.rank_machine.specs.Resumed.{CanKeep}
use Rattle.rank_machine.specs.Saving.{block_of, object_of}
use Rattle.rank_machine.specs.Tied.{Size, size_of, sizes_of, cells_at, without_size, AreApart, AreTied, AreBelow, IsTied}
use Rattle.rank_machine.proofs.Apart.{apart_total}
use Rattle.rank_machine.proofs.Memories.{cells_sizes}
use Rattle.rank_machine.proofs.Sizes.{none_without}
use Rattle.rank_machine.proofs.Ties.{tied_total}

-- ---- blocks

pub apart_end : (most low : ℕ) (bs : List Block) (b : Block) → AreApart b.place low bs → b.place + b.length ≤ most → AreApart most low (bs ++ b ∷ [])
apart_end most low [] b h l = (h, l)
apart_end most low (c ∷ cs) b h l = (h.0, apart_end most (c.place + c.length) cs b h.1 l)

-- ---- one size more

-- these sizes are the others with one among them
pub data IsIn (x : Size) : List Size → List Size → Type 0 where
  here : (xs ys : List Size) → ys ≡ x ∷ xs → IsIn x xs ys
  there : (xs ys : List Size) (y : Size) (us vs : List Size) → xs ≡ y ∷ us → ys ≡ y ∷ vs → IsIn x us vs → IsIn x xs ys

in_by : (o x : Object) (xs more : List Object) (t : Bool) → IsIn (size_of o) (sizes_of xs) (sizes_of more) → IsIn (size_of o) (sizes_of (x ∷ xs)) (sizes_of (if t then o ∷ x ∷ xs else x ∷ more))
in_by o x xs more true r = here _ _ refl
in_by o x xs more false r = there _ _ (size_of x) (sizes_of xs) (sizes_of more) refl refl r

pub is_in : (o : Object) (os : List Object) → IsIn (size_of o) (sizes_of os) (sizes_of (insert_object o os))
is_in o [] = here _ _ refl
is_in o (x ∷ xs) = in_by o x xs (insert_object o xs) (nat_lt o.serial x.serial) (is_in o xs)

at_if : (y : Size) (s : ℕ) (t : Bool) (us vs : List Size) → cells_at vs s ≡ cells_at us s → (if t then Some y.cells else cells_at vs s) ≡ (if t then Some y.cells else cells_at us s)
at_if y s true us vs r = refl
at_if y s false us vs r = r

at_others : (x : Size) (xs ys : List Size) (s : ℕ) → x.serial ≢ s → IsIn x xs ys → cells_at ys s ≡ cells_at xs s
at_others x _ _ s n (here xs ys e) =
    let t : nat_eq x.serial s ≡ false = grind (arith, nat_tests, n) in
    ap (λ (z : List Size). cells_at z s) e ∙ rw t refl
at_others x _ _ s n (there xs ys y us vs e f r) = ap (λ (z : List Size). cells_at z s) f ∙ at_if y s (nat_eq y.serial s) us vs (at_others x us vs s n r) ∙ sym (ap (λ (z : List Size). cells_at z s) e)

at_new_by : (x y : Size) (t : Bool) (us vs : List Size) → (if t then Some y.cells else cells_at us x.serial) ≡ None → (cells_at us x.serial ≡ None → cells_at vs x.serial ≡ Some x.cells) → (if t then Some y.cells else cells_at vs x.serial) ≡ Some x.cells
at_new_by x y true us vs h r = absurd cc
at_new_by x y false us vs h r = r h

at_new : (x : Size) (xs ys : List Size) → cells_at xs x.serial ≡ None → IsIn x xs ys → cells_at ys x.serial ≡ Some x.cells
at_new x _ _ h (here xs ys e) =
    let t : nat_eq x.serial x.serial ≡ true = grind (arith, nat_tests) in
    ap (λ (z : List Size). cells_at z x.serial) e ∙ rw t refl
at_new x _ _ h (there xs ys y us vs e f r) = ap (λ (z : List Size). cells_at z x.serial) f ∙ at_new_by x y (nat_eq y.serial x.serial) us vs (sym (ap (λ (z : List Size). cells_at z x.serial) e) ∙ h) (λ n. at_new x us vs n r)

without_new_by : (x y : Size) (t : Bool) (us vs : List Size) → (if t then Some y.cells else cells_at us x.serial) ≡ None → (cells_at us x.serial ≡ None → without_size vs x.serial ≡ us) → (if t then vs else y ∷ without_size vs x.serial) ≡ y ∷ us
without_new_by x y true us vs h r = absurd cc
without_new_by x y false us vs h r = rw (r h) refl

without_new : (x : Size) (xs ys : List Size) → cells_at xs x.serial ≡ None → IsIn x xs ys → without_size ys x.serial ≡ xs
without_new x _ _ h (here xs ys e) =
    let t : nat_eq x.serial x.serial ≡ true = grind (arith, nat_tests) in
    ap (λ (z : List Size). without_size z x.serial) e ∙ rw t refl
without_new x _ _ h (there xs ys y us vs e f r) = ap (λ (z : List Size). without_size z x.serial) f ∙ without_new_by x y (nat_eq y.serial x.serial) us vs (sym (ap (λ (z : List Size). cells_at z x.serial) e) ∙ h) (λ n. without_new x us vs n r) ∙ sym e

in_if : (x y : Size) (t : Bool) (us vs less more : List Size) → IsIn x us vs → IsIn x less more → IsIn x (if t then us else y ∷ less) (if t then vs else y ∷ more)
in_if x y true us vs less more i r = i
in_if x y false us vs less more i r = there _ _ y less more refl refl r

without_others : (x : Size) (xs ys : List Size) (s : ℕ) → x.serial ≢ s → IsIn x xs ys → IsIn x (without_size xs s) (without_size ys s)
without_others x _ _ s n (here xs ys e) =
    let t : nat_eq x.serial s ≡ false = grind (arith, nat_tests, n) in
    here _ _ (ap (λ (z : List Size). without_size z s) e ∙ rw t refl)
without_others x _ _ s n (there xs ys y us vs e f r) =
    subst (λ (z : List Size). IsIn x (without_size z s) (without_size ys s)) (sym e) (subst (λ (z : List Size). IsIn x (without_size (y ∷ us) s) (without_size z s)) (sym f) (in_if x y (nat_eq y.serial s) us vs (without_size us s) (without_size vs s) r (without_others x us vs s n r)))

pub below_in : (next : ℕ) (x : Size) (xs ys : List Size) → 0 < x.serial → x.serial < next → AreBelow next xs → IsIn x xs ys → AreBelow next ys
below_in next x _ _ some low h (here xs ys e) = subst (λ (z : List Size). AreBelow next z) (sym e) (some, low, h)
below_in next x _ _ some low h (there xs ys y us vs e f r) =
    let k : AreBelow next (y ∷ us) = subst (λ (z : List Size). AreBelow next z) e h in
    subst (λ (z : List Size). AreBelow next z) (sym f) (k.0, k.1, below_in next x us vs some low k.2 r)

unlike : (xs : List Size) (s t n : ℕ) → cells_at xs s ≡ None → cells_at xs t ≡ Some n → s ≢ t
unlike xs s t n h e same = let f : cells_at xs s ≡ Some n = subst (λ (k : ℕ). cells_at xs k ≡ Some n) (sym same) e in absurd cc

pub tied_end : (x : Size) (xs ys : List Size) (bs : List Block) (b : Block) → b.serial ≡ x.serial → b.length ≡ x.cells → cells_at xs x.serial ≡ None → IsIn x xs ys → AreTied xs bs → AreTied ys (bs ++ b ∷ [])
tied_end x xs ys [] b s l n i h =
    (ap (cells_at ys) s ∙ at_new x xs ys n i ∙ ap Some (sym l), ap (without_size ys) s ∙ without_new x xs ys n i ∙ h)
tied_end x xs ys (c ∷ cs) b s l n i h =
    let other : x.serial ≢ c.serial = unlike xs x.serial c.serial c.length n h.0 in
    (at_others x xs ys c.serial other i ∙ h.0, tied_end x (without_size xs c.serial) (without_size ys c.serial) cs b s l (none_without xs x.serial c.serial n) (without_others x xs ys c.serial other i) h.1)

-- ---- an object more

none_if : (o : Object) (os : List Object) (s : ℕ) (t : Bool) → (if t then Some o.cells else find_object os s) ≡ None → (find_object os s ≡ None → cells_at (sizes_of os) s ≡ None) → (if t then Some (length o.cells) else cells_at (sizes_of os) s) ≡ None
none_if o os s true h r = absurd cc
none_if o os s false h r = r h

pub none_at : (os : List Object) (s : ℕ) → find_object os s ≡ None → cells_at (sizes_of os) s ≡ None
none_at [] s h = refl
none_at (o ∷ os) s h = none_if o os s (nat_eq o.serial s) h (none_at os s)

pub tied_kept : (m : Memory) (bs : List Block) (o : SavedObject) → CanKeep m.next bs m.heap o → 65536 ≤ m.asked → IsTied m bs → IsTied (record m { heap = insert_object (object_of o) m.heap }) (bs ++ block_of o ∷ [])
tied_kept m bs o k a h =
    let within = k.within in
    let i = is_in (object_of o) m.heap in
    record {
      within = apart_end 65536 0 bs (block_of o) k.above k.within;
      asked = apart_end m.asked 0 bs (block_of o) k.above (omega (arith, within, a));
      tied = tied_end (size_of (object_of o)) (sizes_of m.heap) (sizes_of (insert_object (object_of o) m.heap)) bs (block_of o) refl refl (none_at m.heap o.serial k.new) i h.tied;
      serials = below_in m.next (size_of (object_of o)) (sizes_of m.heap) (sizes_of (insert_object (object_of o) m.heap)) k.positive k.below h.serials i;
    }

-- there is room for it
pub room_above : (m : Memory) (bs : List Block) (o : SavedObject) → CanKeep m.next bs m.heap o → IsTied m bs → cells_in m.heap + length o.cells ≤ 65536
room_above m bs o k h =
    let t = apart_total o.place 0 bs k.above in
    let s = tied_total (sizes_of m.heap) bs h.tied in
    let c = cells_sizes m.heap in
    let within = k.within in
    omega (arith, t, s, c, within)
