use Rattle.std.proofs.Common.{◌≡◌, ◌++◌}
use Rattle.std.specs.Prelude.{codes, replicate}
use Rattle.flat_code.specs.Text.{base_text}
use Rattle.flat_code.proofs.text.types.put_typed_name.Given as goal

abbrev pub invariant-loop : goal.invariant-loop
invariant-loop l = l.text.items ≡ l.fn.text.items ++ base_text l.structs l.fn.kind.base ++ codes " " ++ replicate l.counter 42
