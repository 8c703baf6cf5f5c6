use Rattle.std.proofs.Common.{◌≡◌, drop, Some}
use Rattle.c_rules.specs.Format.{pieces_from, pieces}
use Rattle.c_rules.proofs.Gathered.{joined}
use Rattle.c_rules.proofs.format.pieces.Given as goal

abbrev pub invariant-loop-byte : goal.invariant-loop-byte
invariant-loop-byte l = joined (Some l.pieces) (pieces_from l.spot (drop l.byte-index l.bytes)) ≡ pieces l.bytes
