use Rattle.std.proofs.Common.{◌≡◌, ◌++◌, drop}
use Rattle.c_rules.specs.Rules.{passed}
use Rattle.c_rules.proofs.rules.passed.Given as goal

abbrev pub invariant-loop-c_type : goal.invariant-loop-c_type
invariant-loop-c_type l = l.terms ++ passed (drop l.c_type-index l.c_types) l.values ≡ passed l.c_types l.fn.values
