use Rattle.std.proofs.Common.{◌≡◌, ◌++◌, drop}
use Rattle.c_tree.specs.Scan.{squeezed}
use Rattle.c_parse.proofs.LexText.{rest_of}
use Rattle.c_parse.proofs.lexer.directive.squeezed.Given as goal

abbrev pub invariant-loop-byte : goal.invariant-loop-byte
invariant-loop-byte l = l.bytes.items ++ rest_of l.is_after_blank (drop l.byte-index l.line) ≡ squeezed l.line
