use Rattle.std.proofs.Common.{◌≡◌, ◌++◌, map, length}
use Rattle.c_rules.specs.Rules.{value}
use Rattle.c_check.proofs.statement.values_of.Given as goal

abbrev pub invariant-values : goal.invariant-values
invariant-values l = l.terms ++ map value l.vs ≡ map value l.fn.vs

abbrev pub decreases-values : goal.decreases-values
decreases-values l = length l.vs
