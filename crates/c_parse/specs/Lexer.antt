-- How the lexer holds the pieces of a text.
use Rattle.std.specs.Prelude.{ℕ, ◌+◌, ◌≤◌, List, [], ◌∷◌, ◌++◌, drop, map, Option, Some, None}
use Rattle.std.specs.Borrow.{Bor}
use Rattle.c_tree.specs.declared.token.Class.{Class}
use Rattle.c_tree.specs.Scan as scan
use Rattle.c_parse.specs.declared.lexer.piece.Piece.{Piece}
use Rattle.c_parse.specs.declared.lexer.piece.Piece.TheVariants as piece
use Rattle.c_parse.specs.declared.lexer.string.Part.{Part}
use Rattle.c_parse.specs.declared.lexer.string.Part.TheVariants as part
use Rattle.c_tree.specs.declared.token.Class.TheVariants as class
use Rattle.c_tree.specs.declared.token.Value.TheVariants as value

-- a piece as the code has it, and one that may be missing
abbrev pub shown : Piece → scan.Piece
shown (piece.Gap n) = scan.Gap n
shown (piece.One class value n) = scan.One class value n
shown (piece.Wrong offset) = scan.Wrong offset

abbrev pub maybe_shown : Option Piece → Option scan.Piece
maybe_shown None = None
maybe_shown (Some p) = Some (shown p)

-- how far into the text a piece speaks
abbrev pub reach : Piece → ℕ
reach (piece.Gap n) = n
reach (piece.One class value n) = n
reach (piece.Wrong offset) = offset

-- a table and a list of texts as the code has them
abbrev pub bytes_of : List (Bor (List ℕ)) → List (List ℕ)
bytes_of = map (λ t. t.now)

abbrev pub table_of : List (Bor (List ℕ) × Class) → scan.Table
table_of = map (λ r. (r.0.now, r.1))

-- what a string is, n bytes on and with these bytes so far, by its next part
abbrev pub part_says : Part → ℕ → List ℕ → List ℕ → scan.Piece
part_says part.Quote n so_far text = scan.One class.Text (value.Bytes so_far) (n + 1)
part_says (part.Byte b len) n so_far text = scan.string_end (n + len) (so_far ++ b ∷ []) (drop len text)
part_says part.NoEscape n so_far text = scan.Wrong n
part_says part.Unclosed n so_far text = scan.Wrong 0

-- a byte's part is of a byte at least, and not longer than the text
abbrev pub IsPartOf : Part → ℕ → Type 0
IsPartOf part.Quote n = Unit {0}
IsPartOf (part.Byte b len) n = (1 ≤ len) × (len ≤ n)
IsPartOf part.NoEscape n = Unit {0}
IsPartOf part.Unclosed n = Unit {0}
