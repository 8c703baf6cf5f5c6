use Rattle.c_grammar.specs.Grammar.{Nothing}
use Rattle.c_grammar.proofs.reading.skip.Goals as goal

pub returns-in-Ok-clause-reads : goal.returns-in-Ok-clause-reads
returns-in-Ok-clause-reads c = c.in-Ok.ensures.reads Nothing

pub returns-in-Err-clause-reads : goal.returns-in-Err-clause-reads
returns-in-Err-clause-reads c = c.in-Err.ensures.reads Nothing
