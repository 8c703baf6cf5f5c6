use Rattle.std.proofs.Common.{◌≡◌, ◌++◌, drop, flat_map}
use Rattle.std.specs.Prelude.{codes}
use Rattle.std.specs.Fmt.{decimal}
use Rattle.flat_code.specs.Text.{typed_name}
use Rattle.flat_code.proofs.text.types.put_declared.Given as goal

abbrev pub invariant-loop-size : goal.invariant-loop-size
invariant-loop-size l = l.text.items ++ flat_map (λ n. codes "[" ++ decimal n ++ codes "]") (drop l.size-index l.kind.sizes) ≡ l.fn.text.items ++ typed_name l.structs l.kind.element l.name ++ flat_map (λ n. codes "[" ++ decimal n ++ codes "]") l.kind.sizes
