use Rattle.std.proofs.Common.{ap}
use Rattle.c_tree.specs.declared.token.Class.{Class}
use Rattle.c_tree.specs.declared.token.Value.TheVariants as value
use Rattle.c_grammar.specs.Grammar.{Place}
use Rattle.c_grammar.specs.Meaning.{leaf, none}
use Rattle.c_grammar.proofs.Steps.{r_same}
use Rattle.c_grammar.proofs.reading.place.Goals as goal

pub returns-in-Ok-clause-reads : goal.returns-in-Ok-clause-reads
returns-in-Ok-clause-reads c = r_same (c.in-Ok.ensures.reads Place) (ap (λ (w : Class). leaf w value.Nothing c.in-Ok.token.now.place none) c.in-Ok.ensures.class)

pub returns-in-Err-clause-reads : goal.returns-in-Err-clause-reads
returns-in-Err-clause-reads c = c.in-Err.ensures.reads Place
