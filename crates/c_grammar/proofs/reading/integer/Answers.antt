use Rattle.c_grammar.specs.Grammar.{integers}
use Rattle.c_grammar.specs.Readers.{integer_class, integer_value}
use Rattle.c_grammar.proofs.reading.integer.Goals as goal

pub returns-clause-reads : goal.returns-clause-reads
returns-clause-reads c = c.pick_value.ensures.reads integer_class integer_value integers c.integer_at.ensures
