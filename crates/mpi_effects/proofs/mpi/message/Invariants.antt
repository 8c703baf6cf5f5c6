use Rattle.std.proofs.Common.{◌≡◌, map, take}
use Rattle.c_kernel.specs.Elements.{element_type}
use Rattle.c_values.specs.Value.{narrowed}
use Rattle.mpi_effects.proofs.mpi.message.Given as goal

abbrev pub invariant-loop-c : goal.invariant-loop-c
invariant-loop-c l = l.items ≡ map (λ c. narrowed (element_type l.kind) c.word) (take l.c-index l.cells)
