use Rattle.std.proofs.Common.{◌≡◌, ◌++◌, drop}
use Rattle.flat_code.specs.Text.{declared_from, listed, parameters_text}
use Rattle.flat_code.proofs.text.put_parameters.Given as goal

abbrev pub invariant-loop-k : goal.invariant-loop-k
invariant-loop-k l = l.text.items ++ listed (declared_from l.structs l.k (drop l.k l.types)) ≡ l.fn.text.items ++ parameters_text (declared_from l.structs 0 l.types)
