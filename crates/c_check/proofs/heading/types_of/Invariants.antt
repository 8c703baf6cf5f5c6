use Rattle.std.proofs.Common.{◌≡◌, ◌++◌, map, drop}
use Rattle.c_check.specs.Functions.{parameter_type}
use Rattle.c_check.proofs.heading.types_of.Given as goal

abbrev pub invariant-loop-p : goal.invariant-loop-p
invariant-loop-p l =
    let types = map (parameter_type l.structs) in
    l.c_types ++ types (drop l.p-index l.parameters) ≡ types l.parameters
