use Rattle.std.proofs.Common.{◌≡◌, ◌++◌, drop}
use Rattle.c_check.specs.Structs.{with_members, members_rules}
use Rattle.c_check.proofs.judge.Judge.lay_members.Given as goal

abbrev pub invariant-loop-member : goal.invariant-loop-member
invariant-loop-member l =
    let structs = l.own.structs.now in
    let name = l.own.name.now in
    let rest = drop l.member-index l.members in
    record {
      laid : with_members structs name l.specifier l.laid rest ≡ with_members structs name l.specifier l.fn.laid l.members;
      breaches : l.self.breaches.items ++ members_rules structs name l.specifier l.laid rest ≡ l.fn.self.breaches.items ++ members_rules structs name l.specifier l.fn.laid l.members;
    }
