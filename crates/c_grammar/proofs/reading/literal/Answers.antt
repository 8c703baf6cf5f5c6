use Rattle.c_grammar.specs.Grammar.{literals}
use Rattle.c_grammar.specs.Readers.{literal_class, literal_value}
use Rattle.c_grammar.proofs.reading.literal.Goals as goal

pub returns-clause-reads : goal.returns-clause-reads
returns-clause-reads c = c.pick_value.ensures.reads literal_class literal_value literals c.literal_at.ensures
