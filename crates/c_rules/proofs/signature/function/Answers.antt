use Rattle.std.proofs.Common.{◌∙◌}
use Rattle.c_rules.proofs.Named.{lookup_entries}
use Rattle.c_rules.proofs.signature.function.Goals as goal

pub returns : goal.returns
returns c = c.get.ensures.value ∙ lookup_entries c.args.name.now c.args.functions.now.entries
