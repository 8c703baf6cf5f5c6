use Rattle.std.proofs.Common.{◌≡◌, ◌+◌, drop}
use Rattle.c_tree.specs.Scan.{comment_end}
use Rattle.c_parse.proofs.lexer.gap.comment_end.Given as goal

abbrev pub invariant-loop-at : goal.invariant-loop-at
invariant-loop-at l = comment_end 2 l.text ≡ comment_end (2 + l.at) (drop l.at l.text)
