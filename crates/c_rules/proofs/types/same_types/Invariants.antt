use Rattle.std.proofs.Common.{◌≡◌, drop}
use Rattle.c_rules.specs.Types.{same_types}
use Rattle.c_rules.proofs.types.same_types.Given as goal

abbrev pub invariant-loop-t : goal.invariant-loop-t
invariant-loop-t l = same_types (drop l.t-index l.a) l.rest ≡ same_types l.a l.b
