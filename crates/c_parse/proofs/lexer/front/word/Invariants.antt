use Rattle.std.proofs.Common.{◌≡◌, ◌++◌, take, drop}
use Rattle.c_tree.specs.Scan.{front, is_name_byte}
use Rattle.c_parse.proofs.lexer.front.word.Given as goal

abbrev pub invariant-loop-at : goal.invariant-loop-at
invariant-loop-at l = front is_name_byte l.text ≡ take l.at l.text ++ front is_name_byte (drop l.at l.text)
