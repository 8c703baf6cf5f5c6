use Rattle.std.proofs.Common.{◌≡◌, ◌++◌, drop, flat_map}
use Rattle.flat_code.specs.Text.{declared_from, variable_line, variable_lines}
use Rattle.flat_code.proofs.text.put_variables.Given as goal

abbrev pub invariant-loop-k : goal.invariant-loop-k
invariant-loop-k l = l.text.items ++ flat_map variable_line (declared_from l.structs l.k (drop l.k l.types)) ≡ l.fn.text.items ++ variable_lines l.structs l.f
