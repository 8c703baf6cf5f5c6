use Rattle.std.proofs.Common.{◌++◌, ◌∙◌, List, refl, ap, sym, append-nil, drop}
use Rattle.c_kernel.specs.declared.program.Expr.{Expr}
use Rattle.c_rules.proofs.Lists.{none_valued}
use Rattle.c_rules.proofs.rules.roles.roles_values.Goals as goal

pub returns-then-is_empty : goal.returns-then-is_empty
returns-then-is_empty c =
    sym (append-nil c.loop-role.values)
    ∙ ap (λ (es : List Expr). c.loop-role.values ++ es) (sym (none_valued (drop c.loop-role.role-index c.args.roles.now) c.loop-role.rest (c.if-is_empty.ensures.0 refl)))
    ∙ c.loop-role.invariant
