-- What printf prints (C99 7.19.6.1).
use Rattle.std.specs.Prelude.{ℕ, ℤ, pos, unsigned_abs, List, [], ◌∷◌, ◌++◌}
use Rattle.std.specs.Int.{int_rem_euclid}
use Rattle.std.specs.Fmt.{signed_decimal}
use Rattle.c3_base.specs.declared.cell.Cell.{Cell}
use Rattle.c_kernel.specs.declared.program.Piece.{Piece}
use Rattle.c_kernel.specs.declared.program.Piece.TheVariants.{Byte, Decimal, LongDecimal, Character}

abbrev pub low_byte : ℤ → ℕ
low_byte n = unsigned_abs (int_rem_euclid n (pos 256))

-- the pieces of the format, with an argument for each conversion
abbrev pub printed : List Piece → List Cell → List ℕ
printed [] vs = []
printed (Byte b ∷ ps) vs = b ∷ printed ps vs
printed (Decimal ∷ ps) (v ∷ vs) = signed_decimal v.word ++ printed ps vs
printed (LongDecimal ∷ ps) (v ∷ vs) = signed_decimal v.word ++ printed ps vs
printed (Character ∷ ps) (v ∷ vs) = low_byte v.word ∷ printed ps vs
printed (Decimal ∷ ps) [] = printed ps []
printed (LongDecimal ∷ ps) [] = printed ps []
printed (Character ∷ ps) [] = printed ps []
