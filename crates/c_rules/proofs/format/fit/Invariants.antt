use Rattle.std.proofs.Common.{◌≡◌, drop}
use Rattle.c_rules.specs.Format.{fit}
use Rattle.c_rules.proofs.format.fit.Given as goal

abbrev pub invariant-loop-piece : goal.invariant-loop-piece
invariant-loop-piece l = fit (drop l.piece-index l.pieces) l.rest ≡ fit l.pieces l.values
