use Rattle.std.proofs.Common.{◌≡◌, drop}
use Rattle.c_values.specs.Value.{values_of}
use Rattle.c_values.proofs.Values.{after}
use Rattle.c_values.proofs.value.values.Given as goal

abbrev pub invariant-loop-e : goal.invariant-loop-e
invariant-loop-e g l = after l.found.items (values_of (drop l.e-index l.es) l.variables (g.M.Objects.memory l.memory)) ≡ values_of l.es l.variables (g.M.Objects.memory l.memory)
