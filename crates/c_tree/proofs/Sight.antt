-- What the scan sees at a place: its piece, with the length of a wrong one.
use Rattle.std.proofs.Common.{ℕ, zero, suc, ◌≡◌, ◌+◌, List, [], ◌∷◌, Bool, true, false, ◌||◌, Option, Some, None, refl, ap, arith, length, drop, codes}
use Rattle.std.specs.Prelude.{nat_eq}
use Rattle.std.proofs.lemmas.Bool.Decides.{nat_tests}
use Rattle.c_tree.specs.declared.token.Class.{Class}
use Rattle.c_tree.specs.declared.token.Value.TheVariants as value
use Rattle.c_tree.specs.Scan.{Piece, Gap, One, Wrong, is_white, is_letter, is_digit, is_name_byte, is_character, is_text, in_line, front, begins_with, if, first, piece, first_piece, look, lines, squeezed, no_return, line_class, word_class, word_value, comment_end, after_quote, string_end, sign, digits, number_value, number_class, number_kept, suffix_length, character_escape, escape_or}
use Rattle.c_tree.specs.Scan as scan
use Rattle.c_tree.specs.Tokens.{Meaning, Space, Real, Fault}

-- ---- kinds of bytes

letter_no_white : (b : ℕ) → is_letter b ≡ true → is_white b ≡ false
letter_no_white b h = grind (arith, nat_tests)

letter_no : (b : ℕ) → is_letter b ≡ true → (nat_eq 47 b ≡ false) × (nat_eq 35 b ≡ false)
letter_no b h = (grind (arith, nat_tests), grind (arith, nat_tests))

digit_no_white : (b : ℕ) → is_digit b ≡ true → is_white b ≡ false
digit_no_white b h = grind (arith, nat_tests)

digit_no_letter : (b : ℕ) → is_digit b ≡ true → is_letter b ≡ false
digit_no_letter b h = grind (arith, nat_tests)

digit_no : (b : ℕ) → is_digit b ≡ true → (nat_eq 47 b ≡ false) × (nat_eq 35 b ≡ false)
digit_no b h = (grind (arith, nat_tests), grind (arith, nat_tests))

-- ---- what is seen

pub data Sight : Type 0 where
  none : (offset : ℕ) → Sight
  some : (n : ℕ) (m : Meaning) → Sight

abbrev pub sized : ℕ → Piece → Sight
sized r (Gap n) = some n Space
sized r (One c v n) = some n (Real c v)
sized zero (Wrong o) = none o
sized (suc r) (Wrong o) = some (suc r) (Fault o)

-- n bytes on, how far a string goes that isn't closed
abbrev pub string_reach : ℕ → List ℕ → ℕ
string_reach n [] = n
string_reach n (b ∷ []) = elim (is_text b) as (λ _. ℕ) [ true ↦ n + 1 | false ↦ n ]
string_reach n (b ∷ c ∷ bs) = elim (nat_eq b 92) as (λ _. ℕ) [
  | true ↦ elim (escape_or 34 34 c) as (λ _. ℕ) [ Some v ↦ string_reach (n + 2) bs | None ↦ n + 2 ]
  | false ↦ elim (is_text b) as (λ _. ℕ) [ true ↦ string_reach (n + 1) (c ∷ bs) | false ↦ n ]
]

-- the same of a character
abbrev pub character_reach : List ℕ → ℕ
character_reach [] = 1
character_reach (b ∷ bs) = elim (nat_eq b 92) as (λ _. ℕ) [
  | true ↦ elim bs as (λ _. ℕ) [ [] ↦ 1 | c ∷ cs ↦ 3 ]
  | false ↦ elim (is_character b) as (λ _. ℕ) [ true ↦ 2 | false ↦ 1 ]
]

-- the length of the longest piece, where it is a wrong one
abbrev pub reach : List ℕ → ℕ
reach text =
    elim (begins_with (codes "/*") text) as (λ _. ℕ) [
      | true ↦ length text
      | false ↦ elim (begins_with (codes "#") text) as (λ _. ℕ) [
        | true ↦ length (front in_line text)
        | false ↦ elim (begins_with (codes "'") text) as (λ _. ℕ) [
          | true ↦ character_reach (drop 1 text)
          | false ↦ elim (begins_with (codes "\"") text) as (λ _. ℕ) [ true ↦ string_reach 1 (drop 1 text) | false ↦ 0 ]
        ]
      ]
    ]

abbrev pub seen : Bool → List ℕ → Sight
seen fresh text = sized (reach text) (piece fresh text)

-- ---- the choice among the kinds

chosen : (fresh : Bool) (text : List ℕ) (a b c d e f g h i : Option Piece) → scan.white text ≡ a → scan.line_comment text ≡ b → scan.comment text ≡ c → scan.line fresh text ≡ d → scan.name text ≡ e → scan.number text ≡ f → scan.character text ≡ g → scan.string text ≡ h → scan.sign text ≡ i → piece fresh text ≡ first_piece (a ∷ b ∷ c ∷ d ∷ e ∷ f ∷ g ∷ h ∷ i ∷ [])
chosen fresh text a b c d e f g h i pa pb pc pd pe pf pg ph pi = λ i. first_piece (pa i ∷ pb i ∷ pc i ∷ pd i ∷ pe i ∷ pf i ∷ pg i ∷ ph i ∷ pi i ∷ [])

no_white : (b : ℕ) (bs : List ℕ) → is_white b ≡ false → scan.white (b ∷ bs) ≡ None
no_white b bs h = ap (λ t. if t (Some (Gap 1))) h

no_line_comment : (b : ℕ) (bs : List ℕ) → nat_eq 47 b ≡ false → scan.line_comment (b ∷ bs) ≡ None
no_line_comment b bs h = rw (h, scan.line_comment) refl

no_comment : (b : ℕ) (bs : List ℕ) → nat_eq 47 b ≡ false → scan.comment (b ∷ bs) ≡ None
no_comment b bs h = rw (h, scan.comment) refl

no_line : (fresh : Bool) (b : ℕ) (bs : List ℕ) → nat_eq 35 b ≡ false → scan.line fresh (b ∷ bs) ≡ None
no_line fresh b bs h = rw (h, scan.line) refl

no_name : (b : ℕ) (bs : List ℕ) → is_letter b ≡ false → scan.name (b ∷ bs) ≡ None
no_name b bs h = ap (λ (t : Bool). elim t as (λ _. Option Piece) [ true ↦ let w : List ℕ = front is_name_byte (b ∷ bs) in Some (One (word_class w) (word_value (word_class w) w) (length w)) | false ↦ None ]) h

no_character : (b : ℕ) (bs : List ℕ) → nat_eq 39 b ≡ false → scan.character (b ∷ bs) ≡ None
no_character b bs h = rw (h, scan.character) refl

no_string : (b : ℕ) (bs : List ℕ) → nat_eq 34 b ≡ false → scan.string (b ∷ bs) ≡ None
no_string b bs h = rw (h, scan.string) refl

no_number : (b : ℕ) (bs : List ℕ) → is_digit b ≡ false → scan.number (b ∷ bs) ≡ None
no_number b bs h = rw (h, scan.number) refl

seen_at : (fresh : Bool) (text : List ℕ) (p : Piece) → piece fresh text ≡ p → seen fresh text ≡ sized (reach text) p
seen_at fresh text p e = ap (sized (reach text)) e

pub seen_white : (fresh : Bool) (b : ℕ) (bs : List ℕ) → is_white b ≡ true → seen fresh (b ∷ bs) ≡ some 1 Space
seen_white fresh b bs h = seen_at fresh (b ∷ bs) _ (chosen fresh (b ∷ bs) _ _ _ _ _ _ _ _ _ (ap (λ t. if t (Some (Gap 1))) h) refl refl refl refl refl refl refl refl)

-- what a word means
abbrev pub word_meaning : List ℕ → Meaning
word_meaning w = Real (word_class w) (word_value (word_class w) w)

pub seen_word : (fresh : Bool) (b : ℕ) (bs : List ℕ) → is_letter b ≡ true → seen fresh (b ∷ bs) ≡ some (length (front is_name_byte (b ∷ bs))) (word_meaning (front is_name_byte (b ∷ bs)))
seen_word fresh b bs h =
    let q = letter_no b h in
    let e : scan.name (b ∷ bs) ≡ Some (let w : List ℕ = front is_name_byte (b ∷ bs) in One (word_class w) (word_value (word_class w) w) (length w)) = ap (λ (t : Bool). elim t as (λ _. Option Piece) [ true ↦ let w : List ℕ = front is_name_byte (b ∷ bs) in Some (One (word_class w) (word_value (word_class w) w) (length w)) | false ↦ None ]) h in
    seen_at fresh (b ∷ bs) _ (chosen fresh (b ∷ bs) _ _ _ _ _ _ _ _ _ (no_white b bs (letter_no_white b h)) (no_line_comment b bs q.0) (no_comment b bs q.0) (no_line fresh b bs q.1) e refl refl refl refl)

-- what a number means, and its length
abbrev pub number_meaning : Bool → List ℕ → Meaning
number_meaning long w = Real (number_class long (number_value 0 w)) (number_kept (number_value 0 w))

abbrev pub is_suffix : ℕ → Bool
is_suffix b = nat_eq b 108 || nat_eq b 76

abbrev pub number_sight : List ℕ → List ℕ → Sight
number_sight w text = let long : Bool = first is_suffix (drop (length w) text) in some (length w + suffix_length long) (number_meaning long w)

abbrev number_piece : List ℕ → List ℕ → Piece
number_piece w text = let long : Bool = first is_suffix (drop (length w) text) in One (number_class long (number_value 0 w)) (number_kept (number_value 0 w)) (length w + suffix_length long)

pub seen_number : (fresh : Bool) (b : ℕ) (bs : List ℕ) → is_digit b ≡ true → seen fresh (b ∷ bs) ≡ number_sight (digits (b ∷ bs)) (b ∷ bs)
seen_number fresh b bs h =
    let q = digit_no b h in
    let e : scan.number (b ∷ bs) ≡ Some (number_piece (digits (b ∷ bs)) (b ∷ bs)) = rw (h, scan.number) refl in
    seen_at fresh (b ∷ bs) _ (chosen fresh (b ∷ bs) _ _ _ _ _ _ _ _ _ (no_white b bs (digit_no_white b h)) (no_line_comment b bs q.0) (no_comment b bs q.0) (no_line fresh b bs q.1) (no_name b bs (digit_no_letter b h)) e refl refl refl)

-- what a line that begins with # means
abbrev pub class_meaning : Option Class → Meaning
class_meaning None = Fault 0
class_meaning (Some c) = Real c value.Nothing

abbrev pub line_meaning : Bool → List ℕ → Meaning
line_meaning true w = class_meaning (look lines (squeezed (no_return w)))
line_meaning false w = Fault 0

sized_line : (r : ℕ) (o : Option Class) → sized (suc r) (line_class o (suc r)) ≡ some (suc r) (class_meaning o)
sized_line r None = refl
sized_line r (Some c) = refl

pub seen_line : (fresh : Bool) (bs : List ℕ) → seen fresh (35 ∷ bs) ≡ some (length (front in_line (35 ∷ bs))) (line_meaning fresh (front in_line (35 ∷ bs)))
seen_line true bs = sized_line (length (front in_line bs)) (look lines (squeezed (no_return (front in_line (35 ∷ bs)))))
seen_line false bs = refl

-- a byte that begins no piece of another kind, but perhaps a comment
abbrev pub IsOther : ℕ → Type 0
IsOther b = (is_white b ≡ false) × (is_letter b ≡ false) × (is_digit b ≡ false) × (nat_eq 35 b ≡ false) × (nat_eq 39 b ≡ false) × (nat_eq 34 b ≡ false)

pub seen_other : (fresh : Bool) (b : ℕ) (bs : List ℕ) → IsOther b → begins_with (codes "//") (b ∷ bs) ≡ false → begins_with (codes "/*") (b ∷ bs) ≡ false → seen fresh (b ∷ bs) ≡ sized 0 (first_piece (sign (b ∷ bs) ∷ []))
seen_other fresh b bs h c d =
    let e : piece fresh (b ∷ bs) ≡ first_piece (sign (b ∷ bs) ∷ []) = chosen fresh (b ∷ bs) None None None None None None None None _ (no_white b bs h.0) (rw (c, scan.line_comment) refl) (rw (d, scan.comment) refl) (no_line fresh b bs h.3) (no_name b bs h.1) (no_number b bs h.2) (no_character b bs h.4) (no_string b bs h.5) refl in
    let r : reach (b ∷ bs) ≡ 0 = rw (d, h.3, h.4, h.5, reach) refl in
    λ i. sized (r i) (e i)
