use Rattle.std.proofs.Common.{◌≡◌, drop}
use Rattle.c_tree.specs.Scan.{among}
use Rattle.c_parse.specs.Lexer.{bytes_of}
use Rattle.c_parse.proofs.lexer.table.is_among.Given as goal

abbrev pub invariant-loop-other : goal.invariant-loop-other
invariant-loop-other l = among (bytes_of (drop l.other-index l.texts)) l.text ≡ among (bytes_of l.texts) l.text
