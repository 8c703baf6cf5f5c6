use Rattle.std.proofs.Common.{◌≡◌, take}
use Rattle.image_text.proofs.image.copies.Given as goal

abbrev pub invariant-loop-arrival : goal.invariant-loop-arrival
invariant-loop-arrival l = l.copies ≡ take l.arrival-index l.arrivals
