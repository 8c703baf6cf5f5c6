use Rattle.std.proofs.Common.{◌≡◌, ◌+◌, ◌-◌, ◌≤◌, [], length, drop}
use Rattle.c_tree.specs.Scan.{string_end}
use Rattle.c_parse.proofs.lexer.string.string_end.Given as goal

abbrev pub invariant-loop-at : goal.invariant-loop-at
invariant-loop-at l = record { within : l.at ≤ length l.text; says : string_end (l.at + 1) l.bytes (drop l.at l.text) ≡ string_end 1 [] l.text }

abbrev pub decreases-loop-at : goal.decreases-loop-at
decreases-loop-at l = length l.text - l.at
