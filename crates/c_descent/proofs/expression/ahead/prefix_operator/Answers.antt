use Rattle.c_tree.specs.declared.token.Class.TheVariants.{Sign}
use Rattle.c_grammar.specs.Grammar.{prefixes}
use Rattle.c_descent.proofs.expression.ahead.prefix_operator.Goals as goal

pub returns-in-Ok-clause-reads : goal.returns-in-Ok-clause-reads
returns-in-Ok-clause-reads c = c.in-Ok.ensures.reads (λ o. Sign o) prefixes c.at_prefix.ensures

pub returns-in-Err-clause-reads : goal.returns-in-Err-clause-reads
returns-in-Err-clause-reads c = c.in-Err.ensures.reads (λ o. Sign o) prefixes c.at_prefix.ensures
