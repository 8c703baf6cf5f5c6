use Rattle.std.proofs.Common.{rules}
use Rattle.c_values.proofs.Numbers.{narrowed_char, narrowed_int}
use Rattle.c_values.proofs.number.narrowed.Goals as goal

pub returns-in-Char : goal.returns-in-Char
returns-in-Char c = rw c.in-Char.is (narrowed_char c.args.n c.rem_euclid.result c.cast_signed.result c.ranges.n (search rules) c.rem_euclid.ensures.value c.cast_signed.ensures)

pub returns-in-Int : goal.returns-in-Int
returns-in-Int c = rw c.in-Int.is (narrowed_int c.args.n c.rem_euclid-in-Int.result c.cast_signed-in-Int.result c.ranges.n (search rules) c.rem_euclid-in-Int.ensures.value c.cast_signed-in-Int.ensures)
