-- The tokens of a text, as a function: each piece is read off the text's front.
use Rattle.std.specs.Prelude.{ℕ, zero, suc, ◌+◌, List, [], ◌∷◌, ◌++◌, Bool, true, false, ◌||◌, ◌&&◌, nat_eq, Option, Some, None, codes, length, take, drop}
use Rattle.c_tree.specs.declared.token.Class.{Class}
use Rattle.c_tree.specs.declared.token.Class.TheVariants as class
use Rattle.c_tree.specs.declared.token.Token.{Token}
use Rattle.c_tree.specs.declared.token.Value.{Value}
use Rattle.c_tree.specs.declared.token.Value.TheVariants as value
pub use Rattle.c_tree.specs.Words.{between, is_blank, is_white, is_digit, is_letter, is_name_byte, in_line, is_text, is_character, same, begins_with, Table, look, words, reserved, signs, lines, among, word_class, word_value, number_value, number_class, number_kept, escape, escape_or, character_escape}

-- ---- fronts of a text

-- the longest front of bytes that pass
abbrev pub front : (ℕ → Bool) → List ℕ → List ℕ
front p [] = []
front p (b ∷ bs) = elim (p b) as (λ _. List ℕ) [ true ↦ b ∷ front p bs | false ↦ [] ]

-- ---- pieces of a text

-- what a text begins with: something between tokens of n bytes, a token of n bytes, or a fault so many bytes on
pub data Piece : Type 0 where
  Gap : (n : ℕ) → Piece
  One : (class : Class) (value : Value) (n : ℕ) → Piece
  Wrong : (offset : ℕ) → Piece

abbrev pub if : Bool → Option Piece → Option Piece
if true p = p
if false p = None

abbrev pub first : (ℕ → Bool) → List ℕ → Bool
first p [] = false
first p (b ∷ bs) = p b

abbrev pub white : List ℕ → Option Piece
white text = if (first is_white text) (Some (Gap 1))

abbrev pub line_comment : List ℕ → Option Piece
line_comment text = elim (begins_with (codes "//") text) as (λ _. Option Piece) [ true ↦ Some (Gap (length (front in_line text))) | false ↦ None ]

-- n bytes on, inside a comment
abbrev pub comment_end : ℕ → List ℕ → Piece
comment_end n [] = Wrong 0
comment_end n (b ∷ bs) = elim (begins_with (codes "*/") (b ∷ bs)) as (λ _. Piece) [ true ↦ Gap (n + 2) | false ↦ comment_end (n + 1) bs ]

abbrev pub comment : List ℕ → Option Piece
comment text = elim (begins_with (codes "/*") text) as (λ _. Option Piece) [ true ↦ Some (comment_end 2 (drop 2 text)) | false ↦ None ]

-- a line with each run of blanks made one, without its last blanks
abbrev pub put_blank : List ℕ → List ℕ
put_blank [] = []
put_blank (b ∷ bs) = elim (is_blank b) as (λ _. List ℕ) [ true ↦ b ∷ bs | false ↦ 32 ∷ b ∷ bs ]

abbrev pub squeezed : List ℕ → List ℕ
squeezed [] = []
squeezed (b ∷ bs) = elim (is_blank b) as (λ _. List ℕ) [ true ↦ put_blank (squeezed bs) | false ↦ b ∷ squeezed bs ]

abbrev pub no_return : List ℕ → List ℕ
no_return [] = []
no_return (b ∷ []) = elim (nat_eq b 13) as (λ _. List ℕ) [ true ↦ [] | false ↦ b ∷ [] ]
no_return (b ∷ c ∷ bs) = b ∷ no_return (c ∷ bs)

abbrev pub line_class : Option Class → ℕ → Piece
line_class None n = Wrong 0
line_class (Some c) n = One c value.Nothing n

-- a line whose first byte but blanks is #
abbrev pub line : Bool → List ℕ → Option Piece
line fresh text = elim (begins_with (codes "#") text && fresh) as (λ _. Option Piece) [
  | true ↦ let w : List ℕ = front in_line text in Some (line_class (look lines (squeezed (no_return w))) (length w))
  | false ↦ None
]

abbrev pub name : List ℕ → Option Piece
name text = elim (first is_letter text) as (λ _. Option Piece) [
  | true ↦ let w : List ℕ = front is_name_byte text in Some (One (word_class w) (word_value (word_class w) w) (length w))
  | false ↦ None
]

-- 0, or digits without a leading zero
abbrev pub digits : List ℕ → List ℕ
digits text = elim (first (λ b. nat_eq b 48) text) as (λ _. List ℕ) [ true ↦ take 1 text | false ↦ front is_digit text ]

abbrev pub suffix_length : Bool → ℕ
suffix_length true = 1
suffix_length false = 0

abbrev pub number : List ℕ → Option Piece
number text = elim (first is_digit text) as (λ _. Option Piece) [
  | true ↦
      let w : List ℕ = digits text in
      let v : ℕ = number_value 0 w in
      let long : Bool = first (λ b. nat_eq b 108 || nat_eq b 76) (drop (length w) text) in
      Some (One (number_class long v) (number_kept v) (length w + suffix_length long))
  | false ↦ None
]

-- what closes a character
abbrev pub closed : ℕ → ℕ → List ℕ → Piece
closed v n [] = Wrong 0
closed v n (b ∷ bs) = elim (nat_eq b 39) as (λ _. Piece) [ true ↦ One class.Character (value.Number v) (n + 1) | false ↦ Wrong 0 ]

abbrev pub after_backslash : List ℕ → Piece
after_backslash [] = Wrong 0
after_backslash (b ∷ bs) = elim (character_escape b) as (λ _. Piece) [ Some v ↦ closed v 3 bs | None ↦ Wrong 1 ]

abbrev pub after_quote : List ℕ → Piece
after_quote [] = Wrong 0
after_quote (b ∷ bs) = elim (nat_eq b 92) as (λ _. Piece) [
  | true ↦ after_backslash bs
  | false ↦ elim (is_character b) as (λ _. Piece) [ true ↦ closed b 2 bs | false ↦ Wrong 0 ]
]

abbrev pub character : List ℕ → Option Piece
character text = elim (begins_with (codes "'") text) as (λ _. Option Piece) [ true ↦ Some (after_quote (drop 1 text)) | false ↦ None ]

-- n bytes on, inside a string that stands for these bytes so far
abbrev pub string_end : ℕ → List ℕ → List ℕ → Piece
string_end n so_far [] = Wrong 0
string_end n so_far (b ∷ []) = elim (nat_eq b 34) as (λ _. Piece) [ true ↦ One class.Text (value.Bytes so_far) (n + 1) | false ↦ Wrong 0 ]
string_end n so_far (b ∷ c ∷ bs) = elim (nat_eq b 34) as (λ _. Piece) [
  | true ↦ One class.Text (value.Bytes so_far) (n + 1)
  | false ↦ elim (nat_eq b 92) as (λ _. Piece) [
    | true ↦ elim (escape_or 34 34 c) as (λ _. Piece) [ Some v ↦ string_end (n + 2) (so_far ++ v ∷ []) bs | None ↦ Wrong n ]
    | false ↦ elim (is_text b) as (λ _. Piece) [ true ↦ string_end (n + 1) (so_far ++ b ∷ []) (c ∷ bs) | false ↦ Wrong 0 ]
  ]
]

abbrev pub string : List ℕ → Option Piece
string text = elim (begins_with (codes "\"") text) as (λ _. Option Piece) [ true ↦ Some (string_end 1 [] (drop 1 text)) | false ↦ None ]

-- the first of the table that the text begins with
abbrev pub sign_of : Table → List ℕ → Option Piece
sign_of [] text = None
sign_of (r ∷ rs) text = elim (begins_with r.0 text) as (λ _. Option Piece) [ true ↦ Some (One r.1 value.Nothing (length r.0)) | false ↦ sign_of rs text ]

abbrev pub sign : List ℕ → Option Piece
sign text = sign_of signs text

abbrev pub first_piece : List (Option Piece) → Piece
first_piece [] = Wrong 0
first_piece (None ∷ ps) = first_piece ps
first_piece (Some p ∷ ps) = p

-- what the text begins with; fresh: only blanks stand before it in its line
abbrev pub piece : Bool → List ℕ → Piece
piece fresh text = first_piece (white text ∷ line_comment text ∷ comment text ∷ line fresh text ∷ name text ∷ number text ∷ character text ∷ string text ∷ sign text ∷ [])

abbrev pub fresh_after : Bool → ℕ → Bool
fresh_after fresh b = nat_eq b 10 || (is_blank b && fresh)

-- the tokens of the text from this place on, at most so many; the last is Broken where the first lexical fault is
abbrev pub scan : ℕ → Bool → ℕ → List ℕ → List Token
scan k fresh place [] = []
scan zero fresh place (b ∷ bs) = []
scan (suc k) fresh place (b ∷ bs) = elim (piece fresh (b ∷ bs)) as (λ _. List Token) [
  | Gap n ↦ scan k (fresh_after fresh b) (place + n) (drop n (b ∷ bs))
  | One c v n ↦ record { class = c; value = v; place = place } ∷ scan k false (place + n) (drop n (b ∷ bs))
  | Wrong offset ↦ record { class = class.Broken; value = value.Nothing; place = place + offset } ∷ []
]

abbrev pub tokens_of : List ℕ → List Token
tokens_of text = scan (length text) true 0 text
