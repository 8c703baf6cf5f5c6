use Rattle.std.proofs.Common.{rules, ◌∙◌, ap, unwrap_or}
use Rattle.c_check.proofs.Tables.{called_joined}
use Rattle.c_check.proofs.table.join.Goals as goal

pub returns : goal.returns
returns c =
    called_joined c.args.table.now.entries _ c.args.name c.args.later c.or_insert-f.result.now c.or-f.result
    (search rules)
    (c.or_insert-f.ensures.value ∙ ap (λ f. unwrap_or f c.args.later) c.in_ok-table.ensures.value)
    c.or-f.ensures
