-- The format of a printf (C99 7.19.6.1).
use Rattle.std.specs.Prelude.{ℕ, Bool, true, false, ◌&&◌, List, [], ◌∷◌, nat_eq, Option, Some, None, if◌then◌else◌}
use Rattle.c_kernel.specs.declared.types.CType.{CType}
use Rattle.c_kernel.specs.declared.types.IntegerType.{IntegerType}
use Rattle.c_kernel.specs.declared.types.IntegerType.TheVariants.{Int, Long}
use Rattle.c_kernel.specs.declared.program.Piece.{Piece}
use Rattle.c_kernel.specs.declared.program.Piece.TheVariants.{Byte, Decimal, LongDecimal, Character}
use Rattle.c_rules.specs.declared.found.Found.{Found}
use Rattle.c_rules.specs.declared.format.Spot.{Spot}
use Rattle.c_rules.specs.declared.format.Spot.TheVariants.{Outside, Percent, PercentL}
use Rattle.c_rules.specs.declared.format.Reading.{Reading}
use Rattle.c_rules.specs.declared.format.Reading.TheVariants.{Gives, Moves, Wrong}
use Rattle.c_rules.specs.Judged.{more}
use Rattle.c_rules.specs.Types.{is_integer, integer_of, promoted, same_integer}
use Rattle.c_rules.specs.Rules.{c_type_of}

-- behind %: d, c, % or the l of ld
abbrev pub read_behind : ℕ → Reading
read_behind b =
    if nat_eq b 100 then Gives Decimal
    else if nat_eq b 99 then Gives Character
    else if nat_eq b 37 then Gives (Byte 37)
    else if nat_eq b 108 then Moves PercentL
    else Wrong

abbrev pub read : Spot → ℕ → Reading
read Outside b = if nat_eq b 37 then Moves Percent else Gives (Byte b)
read Percent b = read_behind b
read PercentL b = if nat_eq b 100 then Gives LongDecimal else Wrong

-- the pieces of a format, or none where a % isn't followed by d, ld, c or %
abbrev pub pieces_from : Spot → List ℕ → Option (List Piece)
pieces_from Outside [] = Some []
pieces_from Percent [] = None
pieces_from PercentL [] = None
pieces_from spot (b ∷ bs) = elim (read spot b) [
  | Gives p ↦ more (Some p) (pieces_from Outside bs)
  | Moves next ↦ pieces_from next bs
  | Wrong ↦ None
]

abbrev pub pieces : List ℕ → Option (List Piece)
pieces bytes = pieces_from Outside bytes

-- the type at which a piece's argument computes
abbrev pub wanted : Piece → Option IntegerType
wanted (Byte b) = None
wanted Decimal = Some Int
wanted LongDecimal = Some Long
wanted Character = Some Int

abbrev pub computes_as : IntegerType → CType → Bool
computes_as kind t = is_integer t && same_integer kind (promoted (integer_of t))

-- one argument for each %d, %ld and %c, of its type
abbrev pub fit_one : Option IntegerType → List Found → (List Found → Bool) → Bool
fit_one None vs rest = rest vs
fit_one (Some kind) [] rest = false
fit_one (Some kind) (v ∷ vs) rest = computes_as kind (c_type_of v) && rest vs

abbrev pub fit : List Piece → List Found → Bool
fit [] [] = true
fit [] (v ∷ vs) = false
fit (p ∷ ps) vs = fit_one (wanted p) vs (fit ps)
