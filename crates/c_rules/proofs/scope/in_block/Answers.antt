use Rattle.std.proofs.Common.{◌∙◌}
use Rattle.c_rules.proofs.Named.{lookup_entries}
use Rattle.c_rules.proofs.scope.in_block.Goals as goal

pub returns : goal.returns
returns c = c.get.ensures.value ∙ lookup_entries c.args.name.now c.args.block.now.entries
