use Rattle.std.proofs.Common.{ℕ, ◌<◌, ◌≤◌, ◌-◌, length, get_or}
use Rattle.c_memory.specs.declared.object.Object.{Object}
use Rattle.c_memory.proofs.object.place.Given as goal

abbrev pub invariant-loop-low : goal.invariant-loop-low
invariant-loop-low l =
    (l.low ≤ l.high)
    × (l.high ≤ length l.objects)
    × ((k : ℕ) (d : Object) → k < l.low → (get_or l.objects k d).serial < l.serial)
    × ((k : ℕ) (d : Object) → l.high ≤ k → k < length l.objects → l.serial ≤ (get_or l.objects k d).serial)

abbrev pub decreases-loop-low : goal.decreases-loop-low
decreases-loop-low l = l.high - l.low
