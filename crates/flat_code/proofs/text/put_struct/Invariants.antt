use Rattle.std.proofs.Common.{◌≡◌, ◌++◌, drop, flat_map}
use Rattle.std.specs.Prelude.{codes}
use Rattle.flat_code.specs.Text.{member_text}
use Rattle.flat_code.proofs.text.put_struct.Given as goal

abbrev pub invariant-loop-m : goal.invariant-loop-m
invariant-loop-m l = l.text.items ++ flat_map (member_text l.structs) (drop l.m-index l.s.members) ≡ l.fn.text.items ++ codes "struct " ++ l.s.name ++ codes " { " ++ flat_map (member_text l.structs) l.s.members
