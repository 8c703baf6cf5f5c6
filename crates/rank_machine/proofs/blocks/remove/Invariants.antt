use Rattle.std.proofs.Common.{◌≡◌, ◌≢◌, ◌<◌, ℕ, get_or}
use Rattle.variable_stack.specs.declared.Descriptor.{Descriptor}
use Rattle.rank_machine.proofs.blocks.remove.Given as goal

abbrev pub invariant-loop-at : goal.invariant-loop-at
invariant-loop-at l = record {
  same : l.blocks.items ≡ l.fn.blocks.items;
  others : (k : ℕ) (d : Descriptor) → k < l.at → (get_or l.blocks.items k d).serial ≢ l.serial;
}
