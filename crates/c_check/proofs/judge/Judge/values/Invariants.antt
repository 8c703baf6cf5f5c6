use Rattle.std.proofs.Common.{map, drop}
use Rattle.c_check.specs.Statement.{values}
use Rattle.c_check.specs.Told.{among}
use Rattle.c_check.proofs.Steps.{Goes}
use Rattle.c_check.proofs.judge.Judge.values.Given as goal

abbrev pub invariant-loop-e : goal.invariant-loop-e
invariant-loop-e l =
    Goes l.fn.self l.self l.found
    (among l.names values (map (λ e. e.now) (drop l.e-index l.es)))
    (among l.names values (map (λ e. e.now) l.es))
