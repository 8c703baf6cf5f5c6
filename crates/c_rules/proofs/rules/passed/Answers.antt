use Rattle.std.proofs.Common.{◌++◌, ◌∙◌, List, ap, sym, append-nil, drop, arith}
use Rattle.c_kernel.specs.declared.program.Expr.{Expr}
use Rattle.c_rules.proofs.Lists.{none_passed}
use Rattle.c_rules.proofs.rules.passed.Goals as goal

pub returns-then-len-eq0 : goal.returns-then-len-eq0
returns-then-len-eq0 c =
    sym (append-nil c.loop-c_type.terms)
    ∙ ap (λ (xs : List Expr). c.loop-c_type.terms ++ xs) (sym (none_passed (drop c.loop-c_type.c_type-index c.args.c_types.now) c.loop-c_type.values (omega (arith, c.if-len-eq0.true, c.len.ensures))))
    ∙ c.loop-c_type.invariant
