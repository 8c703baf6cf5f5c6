use Rattle.std.proofs.Common.{◌≡◌, ◌++◌, drop}
use Rattle.c_rules.specs.Rules.{argument_rules}
use Rattle.c_rules.proofs.rules.note_arguments.Given as goal

abbrev pub invariant-loop-v : goal.invariant-loop-v
invariant-loop-v l = l.breaches.items ++ argument_rules l.c_types (drop l.v-index l.values) ≡ l.fn.breaches.items ++ argument_rules l.fn.c_types l.values
