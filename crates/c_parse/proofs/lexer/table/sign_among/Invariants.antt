use Rattle.std.proofs.Common.{◌≡◌, drop}
use Rattle.c_tree.specs.Scan.{sign_of}
use Rattle.c_parse.specs.Lexer.{table_of}
use Rattle.c_parse.proofs.lexer.table.sign_among.Given as goal

abbrev pub invariant-loop-entry : goal.invariant-loop-entry
invariant-loop-entry l = sign_of (table_of (drop l.entry-index l.table)) l.text ≡ sign_of (table_of l.table) l.text
