use Rattle.std.proofs.Common.{◌≡◌, drop}
use Rattle.c_rules.specs.Types.{numbered, member_bytes}
use Rattle.c_check.proofs.structs.is_known.Given as goal

abbrev pub invariant-loop-member : goal.invariant-loop-member
invariant-loop-member l = numbered l.member-index (drop l.member-index l.members) (member_bytes l.name) ≡ numbered 0 l.members (member_bytes l.name)
