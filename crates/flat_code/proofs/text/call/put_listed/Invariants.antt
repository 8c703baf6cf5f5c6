use Rattle.std.proofs.Common.{◌≡◌, ◌++◌, drop, map}
use Rattle.flat_code.specs.Text.{listed}
use Rattle.flat_code.proofs.text.call.put_listed.Given as goal

abbrev pub invariant-loop-argument : goal.invariant-loop-argument
invariant-loop-argument l = l.text.items ++ listed (map (λ a. a.items) (drop l.argument-index l.arguments)) ≡ l.fn.text.items ++ listed (map (λ a. a.items) l.arguments)
