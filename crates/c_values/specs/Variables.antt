-- The variables of a call.
use Rattle.std.specs.Prelude.{ℕ, nat_eq, if◌then◌else◌}
use Rattle.c_values.specs.declared.value.Variables.{Variables}

-- so many variables, of which the first has this serial. Where there is none, the first is 0
abbrev pub variables_from : ℕ → ℕ → Variables
variables_from first count = record { first = if nat_eq count 0 then 0 else first; count = count }
