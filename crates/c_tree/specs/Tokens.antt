-- The tokens of a text (ISO C99 6.4): at each place the next piece is the longest that can stand there.
use Rattle.std.specs.Prelude.{ℕ, ◌≡◌, ◌↔◌, ◌⊎◌, ◌+◌, ◌≤◌, List, [], ◌∷◌, ◌++◌, Bool, true, false, ◌||◌, ◌&&◌, nat_eq, Option, Some, None, codes, length}
use Rattle.c_tree.specs.declared.token.Class.{Class}
use Rattle.c_tree.specs.declared.token.Class.TheVariants as class
use Rattle.c_tree.specs.declared.token.Token.{Token}
use Rattle.c_tree.specs.declared.token.Value.{Value}
use Rattle.c_tree.specs.declared.token.Value.TheVariants as value
use Rattle.c_tree.specs.Scan.{tokens_of}
use Rattle.c_tree.specs.Words.{is_blank, is_white, is_digit, is_letter, is_name_byte, in_line, is_text, is_character, begins_with, look, lines, signs, word_class, word_value, number_value, number_class, number_kept, character_escape, string_escape}

-- what a piece of a text is: something between tokens, a token, or a fault so many bytes on
pub data Meaning : Type 0 where
  Space : Meaning
  Real : (class : Class) (value : Value) → Meaning
  Fault : (offset : ℕ) → Meaning

-- each byte passes
abbrev pub every : (ℕ → Bool) → List ℕ → Bool
every p [] = true
every p (b ∷ bs) = p b && every p bs

-- `*/` stands in it
abbrev pub closes : List ℕ → Bool
closes [] = false
closes (b ∷ bs) = begins_with (codes "*/") (b ∷ bs) || closes bs

-- only blanks stand before the place in its line (10 ends a line), these bytes being all before it
pub data IsFresh : List ℕ → Type 0 where
  at_start : IsFresh []
  after_line : (before above : List ℕ) → before ≡ above ++ 10 ∷ [] → IsFresh before
  after_blank : (before front : List ℕ) (b : ℕ) → before ≡ front ++ b ∷ [] → is_blank b ≡ true → IsFresh front → IsFresh before

-- w is the form, with one or more blanks where the form has one
pub data Spells : (form w : List ℕ) → Type 0 where
  nothing : Spells [] []
  byte : (b : ℕ) (form w : List ℕ) → is_blank b ≡ false → Spells form w → Spells (b ∷ form) (b ∷ w)
  blank : (c b : ℕ) (form w : List ℕ) → is_blank c ≡ true → is_blank b ≡ true → Spells form w → Spells (c ∷ form) (b ∷ w)
  more : (c b : ℕ) (form w : List ℕ) → is_blank c ≡ true → is_blank b ≡ true → Spells (c ∷ form) w → Spells (c ∷ form) (b ∷ w)

-- one of the four lines (6.10.2, 6.10.6): a form, then any blanks, then a carriage return (13) or none
pub data IsDirective (w : List ℕ) (c : Class) : Type 0 where
  a_line : (form v blanks end : List ℕ) → w ≡ v ++ (blanks ++ end) → look lines form ≡ Some c → Spells form v → every is_blank blanks ≡ true → (end ≡ []) ⊎ (end ≡ 13 ∷ []) → IsDirective w c

-- 0, or digits without a leading zero (6.4.4.1)
pub data IsDecimal : List ℕ → Type 0 where
  a_zero : IsDecimal (48 ∷ [])
  digits : (d : ℕ) (ds : List ℕ) → is_digit d ≡ true → nat_eq d 48 ≡ false → every is_digit ds ≡ true → IsDecimal (d ∷ ds)

-- an l, an L or nothing; true: it makes the number long
pub data IsSuffix : List ℕ → Bool → Type 0 where
  no_letter : IsSuffix [] false
  small_letter : IsSuffix (108 ∷ []) true
  large_letter : IsSuffix (76 ∷ []) true

-- w, between the quotes of a literal, stands for these bytes: a plain one for itself, a backslash (92) and a letter for one (6.4.4.4, 6.4.5)
pub data Means (plain : ℕ → Bool) (escape : ℕ → Option ℕ) : (w bytes : List ℕ) → Type 0 where
  empty : Means plain escape [] []
  itself : (b : ℕ) (w bytes : List ℕ) → plain b ≡ true → Means plain escape w bytes → Means plain escape (b ∷ w) (b ∷ bytes)
  escaped : (b v : ℕ) (w bytes : List ℕ) → escape b ≡ Some v → Means plain escape w bytes → Means plain escape (92 ∷ b ∷ w) (v ∷ bytes)

abbrev pub InCharacter : (w bytes : List ℕ) → Type 0
InCharacter = Means is_character character_escape

abbrev pub InString : (w bytes : List ℕ) → Type 0
InString = Means is_text string_escape

-- w, after these bytes of the text, can be a piece of it
pub data IsPiece (before w : List ℕ) : Meaning → Type 0 where
  white : (b : ℕ) → w ≡ b ∷ [] → is_white b ≡ true → IsPiece before w Space
  -- a comment, and one that no end follows (6.4.9)
  line_comment : (body : List ℕ) → w ≡ codes "//" ++ body → every in_line body ≡ true → IsPiece before w Space
  comment : (body : List ℕ) → w ≡ codes "/*" ++ (body ++ codes "*/") → closes body ≡ false → IsPiece before w Space
  open_comment : (body : List ℕ) → w ≡ codes "/*" ++ body → closes body ≡ false → IsPiece before w (Fault 0)
  -- a line that is a directive, and another that begins with # (6.10)
  directive : (c : Class) → IsDirective w c → IsFresh before → IsPiece before w (Real c value.Nothing)
  wrong_line : (body : List ℕ) → w ≡ codes "#" ++ body → every in_line body ≡ true → ((c : Class) → IsDirective w c → IsFresh before → ⊥) → IsPiece before w (Fault 0)
  -- a name or a word like one (6.4.2.1)
  word : (b : ℕ) (body : List ℕ) → w ≡ b ∷ body → is_letter b ≡ true → every is_name_byte body ≡ true → IsPiece before w (Real (word_class w) (word_value (word_class w) w))
  -- a number (6.4.4.1)
  number : (ds suffix : List ℕ) (long : Bool) → w ≡ ds ++ suffix → IsDecimal ds → IsSuffix suffix long → IsPiece before w (Real (number_class long (number_value 0 ds)) (number_kept (number_value 0 ds)))
  -- a character, one that isn't closed, and a wrong escape (6.4.4.4)
  character : (u : List ℕ) (v : ℕ) → w ≡ codes "'" ++ (u ++ codes "'") → InCharacter u (v ∷ []) → IsPiece before w (Real class.Character (value.Number v))
  open_character : (u bytes : List ℕ) → w ≡ codes "'" ++ u → InCharacter u bytes → length bytes ≤ 1 → IsPiece before w (Fault 0)
  wrong_character : (b : ℕ) → w ≡ codes "'\\" ++ b ∷ [] → character_escape b ≡ None → IsPiece before w (Fault 1)
  -- a string, one that isn't closed, and a wrong escape (6.4.5)
  string : (u bytes : List ℕ) → w ≡ codes "\"" ++ (u ++ codes "\"") → InString u bytes → IsPiece before w (Real class.Text (value.Bytes bytes))
  open_string : (u bytes : List ℕ) → w ≡ codes "\"" ++ u → InString u bytes → IsPiece before w (Fault 0)
  wrong_string : (u bytes : List ℕ) (b : ℕ) → w ≡ codes "\"" ++ (u ++ (codes "\\" ++ b ∷ [])) → InString u bytes → string_escape b ≡ None → IsPiece before w (Fault (1 + length u))
  -- an operator or punctuator (6.4.6)
  operator : (c : Class) → look signs w ≡ Some c → IsPiece before w (Real c value.Nothing)

-- the text begins with the piece w of this meaning, and with none that is longer
abbrev pub IsNext : (before text w rest : List ℕ) → Meaning → Type 0
IsNext before text w rest m = (text ≡ w ++ rest) × IsPiece before w m × ((v after : List ℕ) (n : Meaning) → text ≡ v ++ after → IsPiece before v n → length v ≤ length w)

-- the tokens of the text that follows these bytes
pub data Pieces : (before text : List ℕ) → List Token → Type 0 where
  ends : (before : List ℕ) → Pieces before [] []
  space : (before text w rest : List ℕ) (list : List Token) → IsNext before text w rest Space → Pieces (before ++ w) rest list → Pieces before text list
  token : (before text w rest : List ℕ) (c : Class) (v : Value) (list : List Token) → IsNext before text w rest (Real c v) → Pieces (before ++ w) rest list → Pieces before text (record { class = c; value = v; place = length before } ∷ list)
  fault : (before text w rest : List ℕ) (n : ℕ) → IsNext before text w rest (Fault n) → Pieces before text (record { class = class.Broken; value = value.Nothing; place = length before + n } ∷ [])
  -- the text goes on with a byte that begins no piece
  stray : (before : List ℕ) (b : ℕ) (bs : List ℕ) → ((v after : List ℕ) (m : Meaning) → b ∷ bs ≡ v ++ after → IsPiece before v m → ⊥) → Pieces before (b ∷ bs) (record { class = class.Broken; value = value.Nothing; place = length before } ∷ [])

-- the tokens of a text; the last is of class Broken where the first lexical fault is
abbrev pub Tokens : List ℕ → List Token → Type 0
Tokens text list = Pieces [] text list

-- the function that scans a text gives its tokens
abbrev pub IsScanned : Type 0
IsScanned = (text : List ℕ) (list : List Token) → Tokens text list ↔ (tokens_of text ≡ list)

-- a text has tokens, and no others
abbrev pub IsOneList : Type 0
IsOneList = (text : List ℕ) → ((list : List Token) × Tokens text list) × ((a b : List Token) → Tokens text a → Tokens text b → a ≡ b)
