use Rattle.std.proofs.Common.{◌≡◌, ◌-◌, ◌≤◌, ◌++◌, length, drop}
use Rattle.c_tree.specs.Scan.{scan, tokens_of}
use Rattle.c_parse.proofs.lexer.scanned.Given as goal

abbrev pub invariant-loop : goal.invariant-loop
invariant-loop l = record { within : l.place ≤ length l.text; says : l.tokens ++ scan (length l.text - l.counter) l.is_fresh l.place (drop l.place l.text) ≡ tokens_of l.text }
