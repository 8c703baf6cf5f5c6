use Rattle.std.proofs.Common.{◌∙◌}
use Rattle.c_parse.proofs.LexText.{begins-is}
use Rattle.c_parse.proofs.lexer.front.begins_with.Goals as goal

pub returns-clause-begins : goal.returns-clause-begins
returns-clause-begins c = c.starts_with.ensures.value ∙ begins-is c.args.front.now c.args.text.now
