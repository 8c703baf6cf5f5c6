-- What a text begins with has a value that its class has.
use Rattle.std.proofs.Common.{ℕ, zero, suc, ◌≡◌, ◌+◌, ◌++◌, List, [], ◌∷◌, Bool, true, false, ◌||◌, nat_eq, nat_lt, Option, Some, None, refl, codes, length, drop}
use Rattle.std.specs.Prelude.{◌&&◌}
use Rattle.c_tree.specs.declared.token.Class.{Class}
use Rattle.c_tree.specs.declared.token.Class.TheVariants as class
use Rattle.c_tree.specs.declared.token.Token.{Token}
use Rattle.c_tree.specs.declared.token.Value.{Value}
use Rattle.c_tree.specs.declared.token.Value.TheVariants as value
use Rattle.c_tree.specs.Scan.{Table, look, words, signs, lines, reserved, among, begins_with, same, front, first, in_line, is_letter, is_name_byte, is_digit, is_white, is_character, is_text, squeezed, no_return, word_value, Piece, Gap, One, Wrong, if, white, line_comment, comment, comment_end, line, line_class, name, number, number_value, digits, character, character_escape, escape_or, closed, after_quote, after_backslash, string, string_end, sign, sign_of, first_piece, piece, fresh_after, scan}
use Rattle.c_grammar.specs.Meaning.{fitting}
use Rattle.c_grammar.specs.Fitting.{AllFit, IsFitting}

abbrev Fits : Class → Value → Type 0
Fits c v = fitting c v ≡ v

abbrev PieceFits : Piece → Type 0
PieceFits (Gap n) = Unit {0}
PieceFits (One c v n) = Fits c v
PieceFits (Wrong n) = Unit {0}

abbrev OptionFits : Option Piece → Type 0
OptionFits None = Unit {0}
OptionFits (Some p) = PieceFits p

piece_either : (b : Bool) (x y : Piece) → PieceFits x → PieceFits y → PieceFits (elim b as (λ _. Piece) [ true ↦ x | false ↦ y ])
piece_either true x y p q = p
piece_either false x y p q = q

option_either : (b : Bool) (x y : Option Piece) → OptionFits x → OptionFits y → OptionFits (elim b as (λ _. Option Piece) [ true ↦ x | false ↦ y ])
option_either true x y p q = p
option_either false x y p q = q

-- each class of the table has the value that is told of it
abbrev TableFits : (Class → Value) → Table → Type 0
TableFits worth [] = Unit {0}
TableFits worth (r ∷ rs) = Fits r.1 (worth r.1) × TableFits worth rs

abbrev nothing : Class → Value
nothing c = value.Nothing

words_fit : (w : List ℕ) → TableFits (λ c. word_value c w) words
words_fit w = (refl, (refl, (refl, (refl, (refl, (refl, (refl, (refl, (refl, (refl, (refl, (refl, (refl, (refl, (refl, (refl, (refl, (refl, (refl, (refl, (refl, (refl, (refl, (refl, (refl, (refl, (refl, (refl, (refl, (refl, (refl, (refl, (refl, (refl, (refl, (refl, (refl, (refl, (refl, (refl, (refl, (refl, (refl, (refl, (refl, (refl, (refl, (refl, tt))))))))))))))))))))))))))))))))))))))))))))))))

lines_fit : TableFits nothing lines
lines_fit = (refl, (refl, (refl, (refl, (refl, (refl, (refl, tt)))))))

signs_fit : TableFits nothing signs
signs_fit = (refl, (refl, (refl, (refl, (refl, (refl, (refl, (refl, (refl, (refl, (refl, (refl, (refl, (refl, (refl, (refl, (refl, (refl, (refl, (refl, (refl, (refl, (refl, (refl, (refl, (refl, (refl, (refl, (refl, (refl, (refl, (refl, (refl, (refl, (refl, (refl, (refl, (refl, (refl, (refl, (refl, (refl, (refl, (refl, (refl, tt)))))))))))))))))))))))))))))))))))))))))))))

abbrev FoundFits : (Class → Value) → Option Class → Type 0
FoundFits worth None = Unit {0}
FoundFits worth (Some c) = Fits c (worth c)

found_either : (worth : Class → Value) (b : Bool) (x y : Option Class) → FoundFits worth x → FoundFits worth y → FoundFits worth (elim b as (λ _. Option Class) [ true ↦ x | false ↦ y ])
found_either worth true x y p q = p
found_either worth false x y p q = q

look_fits : (worth : Class → Value) (t : Table) (w : List ℕ) → TableFits worth t → FoundFits worth (look t w)
look_fits worth [] w h = tt
look_fits worth (r ∷ rs) w h = found_either worth (same r.0 w) (Some r.1) (look rs w) h.0 (look_fits worth rs w h.1)

comment_fits : (n : ℕ) (bs : List ℕ) → PieceFits (comment_end n bs)
comment_fits n [] = tt
comment_fits n (b ∷ bs) = piece_either (begins_with (codes "*/") (b ∷ bs)) (Gap (n + 2)) (comment_end (n + 1) bs) tt (comment_fits (n + 1) bs)

line_fits : (o : Option Class) (n : ℕ) → FoundFits nothing o → PieceFits (line_class o n)
line_fits None n h = tt
line_fits (Some c) n h = h

-- a word of no table
other_fits : (b : Bool) (w : List ℕ) → let c : Class = elim b as (λ _. Class) [ true ↦ class.Reserved | false ↦ class.Name ] in Fits c (word_value c w)
other_fits true w = refl
other_fits false w = refl

word_fits : (o : Option Class) (b : Bool) (w : List ℕ) → FoundFits (λ c. word_value c w) o → let c : Class = elim o as (λ _. Class) [ Some c ↦ c | None ↦ elim b as (λ _. Class) [ true ↦ class.Reserved | false ↦ class.Name ] ] in Fits c (word_value c w)
word_fits (Some c) b w h = h
word_fits None b w h = other_fits b w

number_fits : (b long : Bool) (v : ℕ) → Fits (elim b as (λ _. Class) [ true ↦ elim long as (λ _. Class) [ true ↦ class.LongNumber | false ↦ class.Number ] | false ↦ class.HugeNumber ]) (elim b as (λ _. Value) [ true ↦ value.Number v | false ↦ value.Nothing ])
number_fits true true v = refl
number_fits true false v = refl
number_fits false long v = refl

closed_fits : (v n : ℕ) (bs : List ℕ) → PieceFits (closed v n bs)
closed_fits v n [] = tt
closed_fits v n (b ∷ bs) = piece_either (nat_eq b 39) (One class.Character (value.Number v) (n + 1)) (Wrong 0) refl tt

escaped_fits : (o : Option ℕ) (bs : List ℕ) → PieceFits (elim o as (λ _. Piece) [ Some v ↦ closed v 3 bs | None ↦ Wrong 1 ])
escaped_fits (Some v) bs = closed_fits v 3 bs
escaped_fits None bs = tt

backslash_fits : (bs : List ℕ) → PieceFits (after_backslash bs)
backslash_fits [] = tt
backslash_fits (b ∷ bs) = escaped_fits (character_escape b) bs

quote_fits : (bs : List ℕ) → PieceFits (after_quote bs)
quote_fits [] = tt
quote_fits (b ∷ bs) = piece_either (nat_eq b 92) (after_backslash bs) _ (backslash_fits bs) (piece_either (is_character b) (closed b 2 bs) (Wrong 0) (closed_fits b 2 bs) tt)

string_step : (o : Option ℕ) (n : ℕ) (so_far bs : List ℕ) → ((v : ℕ) → PieceFits (string_end (n + 2) (so_far ++ v ∷ []) bs)) → PieceFits (elim o as (λ _. Piece) [ Some v ↦ string_end (n + 2) (so_far ++ v ∷ []) bs | None ↦ Wrong n ])
string_step (Some v) n so_far bs h = h v
string_step None n so_far bs h = tt

string_fits : (n : ℕ) (so_far bs : List ℕ) → PieceFits (string_end n so_far bs)
string_fits n so_far [] = tt
string_fits n so_far (b ∷ []) = piece_either (nat_eq b 34) (One class.Text (value.Bytes so_far) (n + 1)) (Wrong 0) refl tt
string_fits n so_far (b ∷ c ∷ bs) =
    piece_either (nat_eq b 34) (One class.Text (value.Bytes so_far) (n + 1)) _ refl
    (piece_either (nat_eq b 92) _ _ (string_step (escape_or 34 34 c) n so_far bs (λ v. string_fits (n + 2) (so_far ++ v ∷ []) bs))
    (piece_either (is_text b) (string_end (n + 1) (so_far ++ b ∷ []) (c ∷ bs)) (Wrong 0) (string_fits (n + 1) (so_far ++ b ∷ []) (c ∷ bs)) tt))

sign_fits : (t : Table) (text : List ℕ) → TableFits nothing t → OptionFits (sign_of t text)
sign_fits [] text h = tt
sign_fits (r ∷ rs) text h = option_either (begins_with r.0 text) (Some (One r.1 value.Nothing (length r.0))) (sign_of rs text) h.0 (sign_fits rs text h.1)

if_fits : (b : Bool) (p : Piece) → PieceFits p → OptionFits (if b (Some p))
if_fits true p h = h
if_fits false p h = tt

name_fits : (text : List ℕ) → OptionFits (name text)
name_fits text =
    let w : List ℕ = front is_name_byte text in
    option_either (first is_letter text) _ None (word_fits (look words w) (among reserved w || begins_with (codes "MPI_") w) w (look_fits (λ c. word_value c w) words w (words_fit w))) tt

number_text_fits : (text : List ℕ) → OptionFits (number text)
number_text_fits text =
    let w : List ℕ = digits text in
    let v : ℕ = number_value 0 w in
    let long : Bool = first (λ b. nat_eq b 108 || nat_eq b 76) (drop (length w) text) in
    option_either (first is_digit text) _ None (number_fits (nat_lt v 9223372036854775808) (long || nat_lt 2147483647 v) v) tt

first_fits : (p : Option Piece) (ps : List (Option Piece)) → OptionFits p → PieceFits (first_piece ps) → PieceFits (first_piece (p ∷ ps))
first_fits None ps h q = q
first_fits (Some p) ps h q = h

piece_fits : (fresh : Bool) (text : List ℕ) → PieceFits (piece fresh text)
piece_fits fresh text =
    first_fits (white text) _ (if_fits (first is_white text) (Gap 1) tt)
    (first_fits (line_comment text) _ (option_either (begins_with (codes "//") text) (Some (Gap (length (front in_line text)))) None tt tt)
    (first_fits (comment text) _ (option_either (begins_with (codes "/*") text) (Some (comment_end 2 (drop 2 text))) None (comment_fits 2 (drop 2 text)) tt)
    (first_fits (line fresh text) _ (option_either (begins_with (codes "#") text && fresh) (Some (line_class (look lines (squeezed (no_return (front in_line text)))) (length (front in_line text)))) None (line_fits (look lines (squeezed (no_return (front in_line text)))) (length (front in_line text)) (look_fits nothing lines (squeezed (no_return (front in_line text))) lines_fit)) tt)
    (first_fits (name text) _ (name_fits text)
    (first_fits (number text) _ (number_text_fits text)
    (first_fits (character text) _ (option_either (begins_with (codes "'") text) (Some (after_quote (drop 1 text))) None (quote_fits (drop 1 text)) tt)
    (first_fits (string text) _ (option_either (begins_with (codes "\"") text) (Some (string_end 1 [] (drop 1 text))) None (string_fits 1 [] (drop 1 text)) tt)
    (first_fits (sign text) [] (sign_fits signs text signs_fit) tt))))))))

scan_fits : (k : ℕ) (fresh : Bool) (place : ℕ) (text : List ℕ) → AllFit (scan k fresh place text)
scan_fits k fresh place [] = tt
scan_fits zero fresh place (b ∷ bs) = tt
scan_fits (suc k) fresh place (b ∷ bs) = by (λ fresh place text. scan_fits k fresh place text) (piece fresh (b ∷ bs)) (piece_fits fresh (b ∷ bs))
  where
    by : ((fresh : Bool) (place : ℕ) (text : List ℕ) → AllFit (scan k fresh place text)) → (p : Piece) → PieceFits p → AllFit (elim p as (λ _. List Token) [
      | Gap n ↦ scan k (fresh_after fresh b) (place + n) (drop n (b ∷ bs))
      | One c v n ↦ record { class = c; value = v; place = place } ∷ scan k false (place + n) (drop n (b ∷ bs))
      | Wrong offset ↦ record { class = class.Broken; value = value.Nothing; place = place + offset } ∷ []
    ])
    by f (Gap n) h = f (fresh_after fresh b) (place + n) (drop n (b ∷ bs))
    by f (One c v n) h = (h, f false (place + n) (drop n (b ∷ bs)))
    by f (Wrong offset) h = (refl, tt)

pub is_fitting : IsFitting
is_fitting text = scan_fits (length text) true 0 text
