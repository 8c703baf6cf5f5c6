use Rattle.std.proofs.Common.{◌≡◌, ◌++◌, drop}
use Rattle.flat_code.specs.Nested.{step_openings}
use Rattle.flat_code.proofs.text.expression.open_steps.Given as goal

abbrev pub invariant-loop-k : goal.invariant-loop-k
invariant-loop-k l = l.text.items ≡ l.fn.text.items ++ step_openings (drop l.k l.steps)
