use Rattle.std.proofs.Common.{◌++◌, ◌∙◌, List, ap, sym, append-nil, drop}
use Rattle.c_rules.specs.declared.breach.Breach.{Breach}
use Rattle.c_rules.proofs.Lists.{none_ruled}
use Rattle.c_rules.proofs.rules.roles.note_roles.Goals as goal

pub returns-in-empty : goal.returns-in-empty
returns-in-empty c =
    sym (append-nil c.loop-role.breaches.items)
    ∙ ap (λ (fs : List Breach). c.loop-role.breaches.items ++ fs) (sym (none_ruled (drop c.loop-role.role-index c.args.roles.now) c.loop-role.rest.now c.in-empty.len_below))
    ∙ c.loop-role.invariant
