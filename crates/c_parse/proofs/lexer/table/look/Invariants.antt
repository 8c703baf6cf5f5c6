use Rattle.std.proofs.Common.{◌≡◌, drop}
use Rattle.c_tree.specs.Scan.{look}
use Rattle.c_parse.specs.Lexer.{table_of}
use Rattle.c_parse.proofs.lexer.table.look.Given as goal

abbrev pub invariant-loop-entry : goal.invariant-loop-entry
invariant-loop-entry l = look (table_of (drop l.entry-index l.table)) l.text ≡ look (table_of l.table) l.text
