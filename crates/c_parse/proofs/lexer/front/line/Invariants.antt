use Rattle.std.proofs.Common.{◌≡◌, ◌++◌, take, drop}
use Rattle.c_tree.specs.Scan.{front, in_line}
use Rattle.c_parse.proofs.lexer.front.line.Given as goal

abbrev pub invariant-loop-at : goal.invariant-loop-at
invariant-loop-at l = front in_line l.text ≡ take l.at l.text ++ front in_line (drop l.at l.text)
