use Rattle.std.proofs.Common.{◌≡◌, ◌++◌, drop}
use Rattle.c_check.specs.Structs.{none_laid, laid_out, parts_rules}
use Rattle.c_check.proofs.judge.Judge.lay_out.Given as goal

abbrev pub invariant-loop-part : goal.invariant-loop-part
invariant-loop-part l =
    let structs = l.own.structs.now in
    let name = l.own.name.now in
    let rest = drop l.part-index l.members in
    record {
      laid : laid_out structs name l.laid rest ≡ laid_out structs name none_laid l.members;
      breaches : l.self.breaches.items ++ parts_rules structs name l.laid rest ≡ l.fn.self.breaches.items ++ parts_rules structs name none_laid l.members;
    }
