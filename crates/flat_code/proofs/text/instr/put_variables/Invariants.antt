use Rattle.std.proofs.Common.{◌≡◌, ◌++◌}
use Rattle.flat_code.specs.Text.{variable_texts}
use Rattle.flat_code.proofs.text.instr.put_variables.Given as goal

abbrev pub invariant-loop-k : goal.invariant-loop-k
invariant-loop-k l = l.text.items ≡ l.fn.text.items ++ variable_texts l.k
