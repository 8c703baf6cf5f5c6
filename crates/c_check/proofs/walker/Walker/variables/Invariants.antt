use Rattle.std.proofs.Common.{map, drop}
use Rattle.c_check.specs.Statement.{walk_all, variable_walk}
use Rattle.c_check.specs.Told.{knowing}
use Rattle.c_check.proofs.Steps.{Leaves}
use Rattle.c_check.proofs.walker.Walker.variables.Given as goal

abbrev pub invariant-loop-d : goal.invariant-loop-d
invariant-loop-d l =
    let walks = map (knowing l.known variable_walk l.t) in
    Leaves l.fn.self l.self l.found (walk_all (walks (drop l.d-index l.ds))) (walk_all (walks l.ds))
