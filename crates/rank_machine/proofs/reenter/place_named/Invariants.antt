use Rattle.std.proofs.Common.{◌≡◌, drop}
use Rattle.flat_code.specs.Restart.{place_named}
use Rattle.rank_machine.proofs.reenter.place_named.Given as goal

abbrev pub invariant-loop-s : goal.invariant-loop-s
invariant-loop-s l = place_named (drop l.s-index l.sites) l.number ≡ place_named l.sites l.number
