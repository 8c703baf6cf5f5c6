use Rattle.c_grammar.specs.Grammar.{simple_types}
use Rattle.c_grammar.specs.Trees.{plain_class}
use Rattle.c_descent.proofs.types.simple_type.Goals as goal

pub returns-in-Ok-clause-reads : goal.returns-in-Ok-clause-reads
returns-in-Ok-clause-reads c = c.in-Ok.ensures.reads plain_class simple_types c.at_simple_type.ensures

pub returns-in-Err-clause-reads : goal.returns-in-Err-clause-reads
returns-in-Err-clause-reads c = c.in-Err.ensures.reads plain_class simple_types c.at_simple_type.ensures
