use Rattle.std.proofs.Common.{◌≡◌, ◌++◌, drop, flat_map}
use Rattle.flat_code.specs.Text.{code_text, function_text}
use Rattle.flat_code.proofs.text.print_c.Given as goal

abbrev pub invariant-loop-f : goal.invariant-loop-f
invariant-loop-f l = l.text.items ++ flat_map (function_text l.structs l.functions) (drop l.f-index l.functions) ≡ code_text l.code
