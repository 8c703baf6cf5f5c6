-- Objects and their blocks.
use Rattle.std.proofs.Common.{◌≡◌, ◌≢◌, ℕ, Bool, true, false, if◌then◌else◌, List, [], ◌∷◌, ◌++◌, Some, None, refl, sym, ◌∙◌, subst, arith}
use Rattle.std.specs.Prelude.{nat_eq, nat_lt}
use Rattle.std.proofs.lemmas.Bool.Decides.{nat_tests}
use Rattle.flat_code.specs.Placed.{Block, insert_block, without_block}
use Rattle.rank_machine.specs.Tied.{Size, cells_at, without_size, AreTied}
use Rattle.rank_machine.proofs.Apart.{cells_of}
use Rattle.rank_machine.proofs.Sizes.{total, at_without, none_without, swapped, total_without, at_new, at_old, without_new, without_old}

pub tied_total : (os : List Size) (bs : List Block) → AreTied os bs → total os ≡ cells_of bs
tied_total os [] h = rw h refl
tied_total os (b ∷ bs) h =
    let first = total_without os b.serial b.length h.0 in
    let rest = tied_total (without_size os b.serial) bs h.1 in
    omega (arith, first, rest)

-- ---- free

freed_by : (os : List Size) (b : Block) (bs others : List Block) (s : ℕ) (t : Bool) → nat_eq b.serial s ≡ t → AreTied os (b ∷ bs) → AreTied (without_size (without_size os b.serial) s) others → AreTied (without_size os s) (if t then bs else b ∷ others)
freed_by os b bs others s true e h r =
    let same : b.serial ≡ s = grind (arith, nat_tests, e) in
    subst (λ (k : ℕ). AreTied (without_size os k) bs) same h.1
freed_by os b bs others s false e h r =
    let other : s ≢ b.serial = grind (arith, nat_tests, e) in
    (at_without os s b.serial other ∙ h.0, subst (λ (x : List Size). AreTied x others) (sym (swapped os s b.serial other)) r)

pub tied_freed : (os : List Size) (bs : List Block) (s : ℕ) → AreTied os bs → AreTied (without_size os s) (without_block bs s)
tied_freed os [] s h = rw h refl
tied_freed os (b ∷ bs) s h = freed_by os b bs (without_block bs s) s (nat_eq b.serial s) refl h (tied_freed (without_size os b.serial) bs s h.1)

-- ---- malloc

given_by : (os : List Size) (b c : Block) (cs more : List Block) (t : Bool) → AreTied os (c ∷ cs) → cells_at os b.serial ≡ None → AreTied (without_size os c.serial ++ record { serial = b.serial; cells = b.length } ∷ []) more → AreTied (os ++ record { serial = b.serial; cells = b.length } ∷ []) (if t then b ∷ c ∷ cs else c ∷ more)
given_by os b c cs more true h n r =
    let o : Size = record { serial = b.serial; cells = b.length } in
    (at_new os o n, subst (λ (x : List Size). AreTied x (c ∷ cs)) (sym (without_new os o n)) h)
given_by os b c cs more false h n r =
    let o : Size = record { serial = b.serial; cells = b.length } in
    (at_old os o c.serial c.length h.0, subst (λ (x : List Size). AreTied x more) (sym (without_old os o c.serial c.length h.0)) r)

pub tied_given : (os : List Size) (b : Block) (bs : List Block) → AreTied os bs → cells_at os b.serial ≡ None → AreTied (os ++ record { serial = b.serial; cells = b.length } ∷ []) (insert_block b bs)
tied_given os b [] h n =
    let o : Size = record { serial = b.serial; cells = b.length } in
    (at_new os o n, without_new os o n ∙ h)
tied_given os b (c ∷ cs) h n = given_by os b c cs (insert_block b cs) (nat_lt b.place c.place) h n (tied_given (without_size os c.serial) b cs h.1 (none_without os b.serial c.serial n))

-- ---- no block is of a serial that no object has

none_by : (os : List Size) (b : Block) (bs others : List Block) (s : ℕ) (t : Bool) → nat_eq b.serial s ≡ t → cells_at os b.serial ≡ Some b.length → cells_at os s ≡ None → others ≡ bs → (if t then bs else b ∷ others) ≡ b ∷ bs
none_by os b bs others s true e f n r =
    let same : b.serial ≡ s = grind (arith, nat_tests, e) in
    let no : cells_at os s ≡ Some b.length = subst (λ (k : ℕ). cells_at os k ≡ Some b.length) same f in
    absurd cc
none_by os b bs others s false e f n r = rw r refl

pub tied_none : (os : List Size) (bs : List Block) (s : ℕ) → AreTied os bs → cells_at os s ≡ None → without_block bs s ≡ bs
tied_none os [] s h n = refl
tied_none os (b ∷ bs) s h n = none_by os b bs (without_block bs s) s (nat_eq b.serial s) refl h.0 n (tied_none (without_size os b.serial) bs s h.1 (none_without os s b.serial n))
