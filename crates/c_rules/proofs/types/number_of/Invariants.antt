use Rattle.std.proofs.Common.{◌≡◌, ◌+◌, drop}
use Rattle.std.specs.Prelude.{option_map}
use Rattle.c_rules.specs.Types.{number_of}
use Rattle.c_rules.proofs.types.number_of.Given as goal

abbrev pub invariant-loop-number : goal.invariant-loop-number
invariant-loop-number l = option_map (λ n. l.number + n) (number_of (drop l.number l.structs) l.name) ≡ number_of l.structs l.name
