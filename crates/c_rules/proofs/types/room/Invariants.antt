use Rattle.std.proofs.Common.{◌≡◌, drop}
use Rattle.c_rules.specs.Types.{room}
use Rattle.c_rules.proofs.types.room.Given as goal

abbrev pub invariant-loop-n : goal.invariant-loop-n
invariant-loop-n l = room l.all (drop l.n-index l.sizes) ≡ room l.cells l.sizes
