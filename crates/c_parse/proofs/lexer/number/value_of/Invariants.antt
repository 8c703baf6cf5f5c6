use Rattle.std.proofs.Common.{◌≡◌, take, min}
use Rattle.c_tree.specs.Scan.{number_value}
use Rattle.c_parse.proofs.lexer.number.value_of.Given as goal

abbrev pub invariant-loop-digit : goal.invariant-loop-digit
invariant-loop-digit l = l.value ≡ min (number_value 0 (take l.digit-index l.digits)) 18446744073709551615
