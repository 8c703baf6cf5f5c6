use Rattle.std.proofs.Common.{ℕ, ◌<◌, ◌≤◌, length, get_or}
use Rattle.c_memory.specs.declared.object.Object.{Object}
use Rattle.c_memory.proofs.memory.resumed.place_among.Given as goal

abbrev pub invariant-loop-at : goal.invariant-loop-at
invariant-loop-at l =
    (l.at ≤ length l.objects)
    × ((k : ℕ) (d : Object) → l.at ≤ k → k < length l.objects → l.serial < (get_or l.objects k d).serial)

abbrev pub decreases-loop-at : goal.decreases-loop-at
decreases-loop-at l = l.at
