use Rattle.std.proofs.Common.{◌≡◌, ◌++◌, drop, flat_map}
use Rattle.flat_code.specs.Text.{struct_line}
use Rattle.flat_code.proofs.text.put_structs.Given as goal

abbrev pub invariant-loop-s : goal.invariant-loop-s
invariant-loop-s l = l.text.items ++ flat_map (struct_line l.structs) (drop l.s-index l.declared) ≡ l.fn.text.items ++ flat_map (struct_line l.structs) l.declared
