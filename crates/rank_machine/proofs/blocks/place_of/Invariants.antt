use Rattle.std.proofs.Common.{◌<◌, ◌≤◌, ℕ, get_or}
use Rattle.variable_stack.specs.declared.Descriptor.{Descriptor}
use Rattle.rank_machine.proofs.blocks.place_of.Given as goal

abbrev pub invariant-loop-at : goal.invariant-loop-at
invariant-loop-at l = (k : ℕ) (d : Descriptor) → k < l.at → (get_or l.blocks k d).place ≤ l.place
