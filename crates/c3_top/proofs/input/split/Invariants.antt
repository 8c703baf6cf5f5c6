use Rattle.std.proofs.Common.{◌≡◌, true, drop, take}
use Rattle.c3_top.specs.Input.{split_from}
use Rattle.c3_top.proofs.InputParts.{with_front}
use Rattle.c3_top.proofs.input.split.Given as goal

abbrev pub invariant-loop-at : goal.invariant-loop-at
invariant-loop-at l = split_from true l.input ≡ with_front (take l.at l.input) (split_from l.is_fresh (drop l.at l.input))
