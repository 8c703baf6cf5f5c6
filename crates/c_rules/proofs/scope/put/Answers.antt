use Rattle.std.proofs.Common.{◌∙◌, ap}
use Rattle.std.specs.Prelude.{List, ℕ}
use Rattle.std.specs.Str.{bytes_eq}
use Rattle.indexmap.specs.IndexMap.{insert_entry}
use Rattle.c_rules.specs.Scope.{entries}
use Rattle.c_rules.proofs.Named.{insert_entries}
use Rattle.c_rules.proofs.scope.put.Goals as goal

pub returns-in-Ok : goal.returns-in-Ok
returns-in-Ok c =
    ap entries c.in-Ok.ensures.entries
    ∙ insert_entries c.args.block.now.entries c.in_ok-name.name c.args.entity
    ∙ ap (λ (name : List ℕ). insert_entry bytes_eq (entries c.args.block.now.entries) name c.args.entity) c.in_ok-name.ensures.items
