-- Cells and messages have one text each, and no text has two values.
use Rattle.std.proofs.Common.{◌≡◌, ℕ, zero, suc, ◌+◌, ◌-◌, ◌^◌, ◌<◌, ◌≤◌, Bool, true, false, ◌&&◌, ◌==◌, leb, ltb, if◌then◌else◌, ℤ, pos, negsuc, List, [], ◌∷◌, length, refl, sym, ap, arith}
use Rattle.std.proofs.lemmas.Bool.{and_parts, leb-true, true≢false}
use Rattle.std.specs.Int.{w8, w16, w32, w64}
use mir.Val.{SFits}
use Rattle.mpi_words.specs.declared.message.Datatype.{Datatype}
use Rattle.mpi_words.specs.declared.message.Datatype.TheVariants.{Char, Int, Long}
use Rattle.mpi_words.specs.declared.message.Message.{Message}
use Rattle.c3_base.specs.declared.cell.Cell.{Cell}
use Rattle.file_fields.specs.Cells.{cell_form}
use Rattle.file_fields.specs.Forms.{Form, Pair, number, is_between, signed, followed, fit_each, repeated}
use Rattle.file_fields.specs.Messages.{code_of, kind_of, kind_form, least_of, most_of, least_count, most_count, least_item, most_item, item_form, message_form, arrival_form}
use Rattle.file_fields.proofs.Laws.{IsForm, number-form, signed-form, followed-form, converted-form, repeated-form, one_byte, two_bytes, four_bytes, eight_bytes}
use Rattle.file_fields.proofs.Messages.{below, counts}

-- what lies between two numbers of 64 bits is one
fits-between : (a b : ℕ) → a < 2 ^ 63 → b < 2 ^ 63 → (z : ℤ) → is_between (negsuc a) (pos b) z ≡ true → SFits w64 z
fits-between a b least most (pos n) is = record { sfits = omega (arith, most, leb-true n b is) }
fits-between a b least most (negsuc n) is = record { sfits = omega (arith, least, leb-true n a (and_parts (leb n a) true is).0) }

fits-from : (a b : ℕ) → b < 2 ^ 63 → (z : ℤ) → is_between (pos a) (pos b) z ≡ true → SFits w64 z
fits-from a b most (pos n) is = record { sfits = omega (arith, most, leb-true n b (and_parts (leb a n) (leb n b) is).1) }
fits-from a b most (negsuc n) is = absurd (true≢false (sym is))

pub whole_word : IsForm (signed (negsuc (2 ^ 63 - 1)) (pos (2 ^ 63 - 1)))
whole_word = signed-form (negsuc (2 ^ 63 - 1)) (pos (2 ^ 63 - 1)) (fits-between (2 ^ 63 - 1) (2 ^ 63 - 1) (omega arith) (omega arith))

pub cell-form : IsForm cell_form
unfolding cell_form
cell-form = converted-form (λ (p : Pair ℤ ℕ). record { word = p.first; serial = p.second }) (λ (c : Cell). record { first = c.word; second = c.serial })
    (followed (signed (negsuc (2 ^ 63 - 1)) (pos (2 ^ 63 - 1))) (λ word. number w64 0 (2 ^ 64 - 1)))
    (followed-form (signed (negsuc (2 ^ 63 - 1)) (pos (2 ^ 63 - 1))) (λ word. number w64 0 (2 ^ 64 - 1)) whole_word (λ word fits. number-form w64 0 (2 ^ 64 - 1) eight_bytes (omega arith)))
    (λ c. refl) (λ p fits. refl)

kind-form : IsForm kind_form
unfolding kind_form
kind-form = converted-form kind_of code_of (number w8 0 2) (number-form w8 0 2 one_byte (omega arith)) there back
  where
    there : (k : Datatype) → kind_of (code_of k) ≡ k
    there Char = refl
    there Int = refl
    there Long = refl

    back : (n : ℕ) → (number w8 0 2).fits n ≡ true → code_of (kind_of n) ≡ n
    back zero fits = refl
    back (suc zero) fits = refl
    back (suc (suc zero)) fits = refl
    back (suc (suc (suc n))) fits = let few : suc (suc (suc n)) ≤ 2 = below w8 0 2 (suc (suc (suc n))) fits in absurd (omega (arith, few))

-- items are numbers of 64 bits
kind-fits : (k : Datatype) (z : ℤ) → is_between (least_of k) (most_of k) z ≡ true → SFits w64 z
kind-fits Char z is = fits-between 127 127 (omega arith) (omega arith) z is
kind-fits Int z is = fits-between (2 ^ 31 - 1) (2 ^ 31 - 1) (omega arith) (omega arith) z is
kind-fits Long z is = fits-between (2 ^ 63 - 1) (2 ^ 63 - 1) (omega arith) (omega arith) z is

item-fits : (none late size : Bool) (k : Datatype) (count : ℕ) → count ≤ 4100 → (z : ℤ)
    → is_between (if none then least_of k else (if late then least_of k else (if size then pos (count - 4) else least_of Long)))
    (if none then most_of k else (if late then most_of k else (if size then pos (count - 4) else most_of Long))) z ≡ true → SFits w64 z
item-fits true late size k count few z is = kind-fits k z is
item-fits false true size k count few z is = kind-fits k z is
item-fits false false true k count few z is = fits-from (count - 4) (count - 4) (omega (arith, few)) z is
item-fits false false false k count few z is = kind-fits Long z is

item-is : (context : ℕ) (k : Datatype) (count : ℕ) → count ≤ 4100 → (at : ℕ) → IsForm (item_form context k count at)
item-is context k count few at = signed-form (least_item context k count at) (most_item context k count at) (λ z is. item-fits (context == 0) (ltb 3 at) (at == 2) k count few z is)

-- the parts of a message
abbrev Items : Type 0
Items = Pair ℕ (List ℤ)

abbrev Parts : Type 0
Parts = Pair ℕ (Pair Datatype (Pair ℤ Items))

abbrev message_of : Parts → Message
message_of p = record { context = p.first; kind = p.second.first; tag = p.second.second.first; items = p.second.second.second.second }

abbrev parts_of : Message → Parts
parts_of m = record { first = m.context; second = record { first = m.kind; second = record { first = m.tag; second = record { first = length m.items; second = m.items } } } }

abbrev items_form : ℕ → Datatype → Form Items
items_form context kind = followed (number w32 (least_count context) (most_count context)) (λ count. repeated count (item_form context kind count))

abbrev tag_form : ℕ → Datatype → Form (Pair ℤ Items)
tag_form context kind = followed (signed (pos 0) (pos (2 ^ 63 - 1))) (λ tag. items_form context kind)

abbrev parts_form : Form Parts
parts_form = followed (number w8 0 1) (λ context. followed kind_form (λ kind. tag_form context kind))

items-is : (context : ℕ) (kind : Datatype) → IsForm (items_form context kind)
items-is context kind = followed-form (number w32 (least_count context) (most_count context)) (λ count. repeated count (item_form context kind count))
    (number-form w32 (least_count context) (most_count context) four_bytes (omega (arith, counts context)))
    (λ count fits. repeated-form (item_form context kind count) (item-is context kind count (omega (arith, below w32 (least_count context) (most_count context) count fits, counts context))) count)

parts-is : IsForm parts_form
parts-is = followed-form (number w8 0 1) (λ context. followed kind_form (λ kind. tag_form context kind)) (number-form w8 0 1 one_byte (omega arith)) (λ context f.
    followed-form kind_form (λ kind. tag_form context kind) kind-form (λ kind g.
    followed-form (signed (pos 0) (pos (2 ^ 63 - 1))) (λ tag. items_form context kind) (signed-form (pos 0) (pos (2 ^ 63 - 1)) (fits-from 0 (2 ^ 63 - 1) (omega arith))) (λ tag h. items-is context kind)))

each-length : (F : ℕ → Form ℤ) (at n : ℕ) (xs : List ℤ) → fit_each F at n xs ≡ true → length xs ≡ n
each-length F at zero [] fits = refl
each-length F at zero (x ∷ xs) fits = absurd (true≢false (sym fits))
each-length F at (suc n) [] fits = absurd (true≢false (sym fits))
each-length F at (suc n) (x ∷ xs) fits = ap suc (each-length F (at + 1) n xs (and_parts ((F at).fits x) (fit_each F (at + 1) n xs) fits).1)

repeated-length : (n : ℕ) (F : ℕ → Form ℤ) (xs : List ℤ) → (repeated n F).fits xs ≡ true → length xs ≡ n
unfolding repeated
repeated-length n F xs fits = each-length F 0 n xs fits

pub message-form : IsForm message_form
unfolding message_form
message-form = converted-form message_of parts_of parts_form parts-is (λ m. refl) back
  where
    back : (p : Parts) → parts_form.fits p ≡ true → parts_of (message_of p) ≡ p
    back p fits =
        let count = (number w32 (least_count p.first) (most_count p.first)).fits p.second.second.second.first in
        let items = (repeated p.second.second.second.first (item_form p.first p.second.first p.second.second.second.first)).fits p.second.second.second.second in
        let tag = (signed (pos 0) (pos (2 ^ 63 - 1))).fits p.second.second.first in
        let a = and_parts ((number w8 0 1).fits p.first) (kind_form.fits p.second.first && (tag && (count && items))) fits in
        let b = and_parts (kind_form.fits p.second.first) (tag && (count && items)) a.1 in
        let c = and_parts tag (count && items) b.1 in
        let d = and_parts count items c.1 in
        ap (λ (n : ℕ). record { first = p.first; second = record { first = p.second.first; second = record { first = p.second.second.first; second = record { first = n; second = p.second.second.second.second } } } })
        (repeated-length p.second.second.second.first (item_form p.first p.second.first p.second.second.second.first) p.second.second.second.second d.1)

pub arrival-form : IsForm arrival_form
unfolding arrival_form
arrival-form = converted-form (λ (p : Pair ℕ Message). (p.first, p.second)) (λ (a : ℕ × Message). record { first = a.0; second = a.1 })
    (followed (number w16 0 (2 ^ 16 - 1)) (λ source. message_form))
    (followed-form (number w16 0 (2 ^ 16 - 1)) (λ source. message_form) (number-form w16 0 (2 ^ 16 - 1) two_bytes (omega arith)) (λ source fits. message-form))
    (λ a. refl) (λ p fits. refl)
