use Rattle.std.proofs.Common.{◌≡◌, ◌++◌, drop}
use Rattle.c_values.specs.Text.{printed}
use Rattle.c_values.proofs.print.text.Given as goal

abbrev pub invariant-loop-piece : goal.invariant-loop-piece
invariant-loop-piece l = l.text ++ printed (drop l.piece-index l.format) (drop l.at l.values) ≡ printed l.format l.values
