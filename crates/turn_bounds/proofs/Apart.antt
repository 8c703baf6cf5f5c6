-- Blocks that stand apart, and first fit among them.
use Rattle.std.proofs.Common.{◌≡◌, ℕ, ◌+◌, ◌<◌, ◌≤◌, Bool, true, false, if◌then◌else◌, List, [], ◌∷◌, Some, None, refl, arith}
use Rattle.std.specs.Prelude.{nat_eq, nat_lt}
use Rattle.std.proofs.lemmas.Bool.Decides.{nat_tests}
use Rattle.flat_code.specs.Placed.{Block, first_fit, insert_block, without_block}
use Rattle.rank_machine.specs.Tied.{AreApart}

-- how many cells blocks have
abbrev pub cells_of : List Block → ℕ
cells_of [] = 0
cells_of (b ∷ bs) = b.length + cells_of bs

pub apart_total : (most low : ℕ) (bs : List Block) → AreApart most low bs → low + cells_of bs ≤ most
apart_total most low [] h = omega (arith, h)
apart_total most low (b ∷ bs) h =
    let from = h.0 in
    let r : b.place + b.length + cells_of bs ≤ most = apart_total most (b.place + b.length) bs h.1 in
    omega (arith, from, r)

pub apart_low : (most low : ℕ) (bs : List Block) → AreApart most low bs → low ≤ most
apart_low most low bs h = let t = apart_total most low bs h in omega (arith, t)

apart_lower : (most low from : ℕ) (bs : List Block) → low ≤ from → AreApart most from bs → AreApart most low bs
apart_lower most low from [] l h = omega (arith, l, h)
apart_lower most low from (b ∷ bs) l h = let first = h.0 in (omega (arith, first, l), h.1)

pub apart_higher : (most more low : ℕ) (bs : List Block) → most ≤ more → AreApart most low bs → AreApart more low bs
apart_higher most more low [] l h = omega (arith, l, h)
apart_higher most more low (b ∷ bs) l h = (h.0, apart_higher most more (b.place + b.length) bs l h.1)

-- ---- without a block

gone : (most low : ℕ) (b : Block) (bs others : List Block) (t : Bool) → AreApart most low (b ∷ bs) → AreApart most (b.place + b.length) others → AreApart most low (if t then bs else b ∷ others)
gone most low b bs others true h r = let first = h.0 in apart_lower most low (b.place + b.length) bs (omega (arith, first)) h.1
gone most low b bs others false h r = (h.0, r)

pub apart_without : (most low serial : ℕ) (bs : List Block) → AreApart most low bs → AreApart most low (without_block bs serial)
apart_without most low serial [] h = h
apart_without most low serial (b ∷ bs) h = gone most low b bs (without_block bs serial) (nat_eq b.serial serial) h (apart_without most (b.place + b.length) serial bs h.1)

-- ---- where cells fit

-- a place from the first on, that a last place bounds
pub record Fits (most low p : ℕ) : Type 0 where
  pub from : low ≤ p
  pub upto : p ≤ most

fits_last : (low n p : ℕ) (t : Bool) → nat_lt 65536 (low + n) ≡ t → (if t then None else Some low) ≡ Some p → (low ≡ p) × (low + n ≤ 65536)
fits_last low n p true e f = absurd cc
fits_last low n p false e f = let s : low ≡ p = cc in (s, grind (arith, nat_tests, e))

fits_next : (most low n p : ℕ) (b : Block) (bs : List Block) (t : Bool) → AreApart most low (b ∷ bs) → (first_fit bs (b.place + b.length) n ≡ Some p → Fits most (b.place + b.length) p) → (if t then first_fit bs (b.place + b.length) n else Some low) ≡ Some p → Fits most low p
fits_next most low n p b bs true h r f =
    let first = h.0 in
    let rest = r f in
    let l = rest.from in
    record { from = omega (arith, first, l); upto = rest.upto }
fits_next most low n p b bs false h r f =
    let s : low ≡ p = cc in
    let first = h.0 in
    let last = apart_low most (b.place + b.length) bs h.1 in
    record { from = omega (arith, s); upto = omega (arith, s, first, last) }

pub fits : (most low n p : ℕ) (bs : List Block) → AreApart most low bs → first_fit bs low n ≡ Some p → Fits most low p
fits most low n p [] h f =
    let both = fits_last low n p (nat_lt 65536 (low + n)) refl f in
    let same = both.0 in
    record { from = omega (arith, same); upto = omega (arith, same, h) }
fits most low n p (b ∷ bs) h f = fits_next most low n p b bs (nat_lt b.place (low + n)) h (fits most (b.place + b.length) n p bs h.1) f

few_next : (most low n p : ℕ) (b : Block) (bs : List Block) (t : Bool) → nat_lt b.place (low + n) ≡ t → most ≤ 65536 → AreApart most low (b ∷ bs) → (first_fit bs (b.place + b.length) n ≡ Some p → p + n ≤ 65536) → (if t then first_fit bs (b.place + b.length) n else Some low) ≡ Some p → p + n ≤ 65536
few_next most low n p b bs true e few h r f = r f
few_next most low n p b bs false e few h r f =
    let s : low ≡ p = cc in
    let last = apart_low most (b.place + b.length) bs h.1 in
    let gap : low + n ≤ b.place = grind (arith, nat_tests, e) in
    omega (arith, s, gap, last, few)

pub fits_few : (most low n p : ℕ) (bs : List Block) → most ≤ 65536 → AreApart most low bs → first_fit bs low n ≡ Some p → p + n ≤ 65536
fits_few most low n p [] few h f =
    let both = fits_last low n p (nat_lt 65536 (low + n)) refl f in
    let same = both.0 in
    let room = both.1 in
    omega (arith, same, room)
fits_few most low n p (b ∷ bs) few h f = few_next most low n p b bs (nat_lt b.place (low + n)) refl few h (fits_few most (b.place + b.length) n p bs few h.1) f

-- the block that comes there stands apart too
abbrev pub block_at : ℕ → ℕ → ℕ → Block
block_at serial p n = record { serial = serial; place = p; length = n }

came_next : (most all low n p serial : ℕ) (b : Block) (bs : List Block) (t : Bool) → nat_lt b.place (low + n) ≡ t → most ≤ all → 0 < n → AreApart most low (b ∷ bs) → (first_fit bs (b.place + b.length) n ≡ Some p → AreApart all (b.place + b.length) (insert_block (block_at serial p n) bs)) → (if t then first_fit bs (b.place + b.length) n else Some low) ≡ Some p → AreApart all low (insert_block (block_at serial p n) (b ∷ bs))
came_next most all low n p serial b bs true e l some h r f =
    let rest = fits most (b.place + b.length) n p bs h.1 f in
    let from = rest.from in
    let t : nat_lt p b.place ≡ false = grind (arith, nat_tests, from) in
    rw t (h.0, r f)
came_next most all low n p serial b bs false e l some h r f =
    let s : low ≡ p = cc in
    let gap : low + n ≤ b.place = grind (arith, nat_tests, e) in
    let t : nat_lt p b.place ≡ true = grind (arith, nat_tests, gap, some, s) in
    rw t (omega (arith, s), (omega (arith, s, gap), apart_higher most all (b.place + b.length) bs l h.1))

pub apart_with : (most all low n p serial : ℕ) (bs : List Block) → most ≤ all → p + n ≤ all → 0 < n → AreApart most low bs → first_fit bs low n ≡ Some p → AreApart all low (insert_block (block_at serial p n) bs)
apart_with most all low n p serial [] l room some h f = let rest = fits most low n p [] h f in let from = rest.from in (from, room)
apart_with most all low n p serial (b ∷ bs) l room some h f =
    came_next most all low n p serial b bs (nat_lt b.place (low + n)) refl l some h (apart_with most all (b.place + b.length) n p serial bs l room some h.1) f

-- ---- where none fits

full_last : (most low n : ℕ) (t : Bool) → nat_lt 65536 (low + n) ≡ t → low ≤ most → (if t then None else Some low) ≡ None → 65536 < most + n
full_last most low n true e h f = let past : 65536 < low + n = grind (arith, nat_tests, e) in omega (arith, past, h)
full_last most low n false e h f = absurd cc

full_next : (most low n : ℕ) (b : Block) (bs : List Block) (t : Bool) → (first_fit bs (b.place + b.length) n ≡ None → 65536 < most + n) → (if t then first_fit bs (b.place + b.length) n else Some low) ≡ None → 65536 < most + n
full_next most low n b bs true r f = r f
full_next most low n b bs false r f = absurd cc

pub full : (most low n : ℕ) (bs : List Block) → AreApart most low bs → first_fit bs low n ≡ None → 65536 < most + n
full most low n [] h f = full_last most low n (nat_lt 65536 (low + n)) refl h f
full most low n (b ∷ bs) h f = full_next most low n b bs (nat_lt b.place (low + n)) (full most (b.place + b.length) n bs h.1) f
