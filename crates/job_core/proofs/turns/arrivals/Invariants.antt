use Rattle.std.proofs.Common.{◌≡◌, take}
use Rattle.job_core.proofs.turns.arrivals.Given as goal

abbrev pub invariant-loop-arrival : goal.invariant-loop-arrival
invariant-loop-arrival l = l.arrivals ≡ take l.arrival-index l.list
