use Rattle.std.proofs.Common.{◌≡◌, ◌≤◌, ◌++◌, drop}
use Rattle.c_rules.specs.Table.{called}
use Rattle.c_rules.specs.Types.{first_structs}
use Rattle.c_rules.proofs.Gathered.{joined}
use Rattle.c_check.specs.Program.{items_judged}
use Rattle.c_check.specs.Structs.{all_structs}
use Rattle.c_check.proofs.walker.Walker.items.Given as goal

abbrev pub invariant-loop-x : goal.invariant-loop-x
invariant-loop-x l =
    let f = called l.functions.entries in
    let rest = items_judged f l.structs l.number (drop l.x-index l.items) in
    let whole = items_judged f first_structs 0 l.items in
    record {
      structs : all_structs l.structs (drop l.x-index l.items) ≡ all_structs first_structs l.items;
      found : joined l.found rest.found ≡ whole.found;
      breaches : l.self.judge.breaches.items ++ rest.breaches ≡ l.fn.self.judge.breaches.items ++ whole.breaches;
      within : l.number ≤ l.x-index;
    }
