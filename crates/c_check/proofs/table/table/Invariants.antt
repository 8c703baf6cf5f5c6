use Rattle.std.proofs.Common.{◌≡◌, ◌≤◌, drop}
use Rattle.c_rules.specs.Scope.{Bytes}
use Rattle.c_rules.specs.Table.{called}
use Rattle.c_rules.specs.Types.{first_structs}
use Rattle.c_check.specs.Functions.{joined, signatures}
use Rattle.c_check.proofs.table.table.Given as goal

abbrev pub invariant-loop-item : goal.invariant-loop-item
invariant-loop-item l =
    record {
      table : (name : Bytes) → joined (called l.table.entries name) (signatures l.structs l.number (drop l.item-index l.items) name) ≡ signatures first_structs 0 l.items name;
      within : l.number ≤ l.item-index;
    }
