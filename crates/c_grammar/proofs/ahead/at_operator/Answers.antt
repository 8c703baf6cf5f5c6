use Rattle.c_grammar.proofs.Words.{no_operator}
use Rattle.c_grammar.proofs.ahead.at_operator.Goals as goal

pub returns-in_default : goal.returns-in_default
returns-in_default c = no_operator c.args.grade c.args.tokens.now c.token-item.result c.in-len1-up.len_at_least c.token-item.is c.in_default.not-Sign
