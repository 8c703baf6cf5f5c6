use Rattle.std.proofs.Common.{◌≡◌, drop}
use Rattle.c_rules.specs.Types.{numbered, member_bytes}
use Rattle.c_rules.proofs.rules.selections.numbered.Given as goal

abbrev pub invariant-loop-number : goal.invariant-loop-number
invariant-loop-number l = numbered l.number (drop l.number l.members) (member_bytes l.name) ≡ numbered 0 l.members (member_bytes l.name)
