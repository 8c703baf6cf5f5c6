use Rattle.std.proofs.Common.{◌≡◌, map, take}
use Rattle.rank_machine.proofs.control.cells_of.Given as goal

abbrev pub invariant-loop-t : goal.invariant-loop-t
invariant-loop-t l = l.lengths.items ≡ map (λ t. t.cells) (take l.t-index l.types)
