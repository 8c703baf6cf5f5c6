use Rattle.std.proofs.Common.{◌-◌, length, sym, arith}
use Rattle.c_parse.proofs.LexText.{no_return_at, no_return_other}
use Rattle.c_parse.proofs.lexer.directive.without_return.Goals as goal

pub returns-in-13 : goal.returns-in-13
returns-in-13 c = sym (no_return_at c.args.line.now (length c.args.line.now - 1) (omega arith) (omega arith))

pub returns-in_default-2 : goal.returns-in_default-2
returns-in_default-2 c = sym (no_return_other c.args.line.now (length c.args.line.now - 1) (omega arith) (λ is. omega arith))
