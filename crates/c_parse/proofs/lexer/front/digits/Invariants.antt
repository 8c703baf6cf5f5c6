use Rattle.std.proofs.Common.{◌≡◌, ◌++◌, take, drop}
use Rattle.c_tree.specs.Scan.{front, is_digit}
use Rattle.c_parse.proofs.lexer.front.digits.Given as goal

abbrev pub invariant-loop-at : goal.invariant-loop-at
invariant-loop-at l = front is_digit l.text ≡ take l.at l.text ++ front is_digit (drop l.at l.text)
