use Rattle.c_tree.specs.declared.token.Class.TheVariants as class
use Rattle.c_grammar.specs.Grammar.{headers}
use Rattle.c_descent.proofs.item.include.Goals as goal

pub returns-in-Ok-clause-reads : goal.returns-in-Ok-clause-reads
returns-in-Ok-clause-reads c = c.in-Ok.ensures.reads (λ h. class.Include h) headers c.at_header.ensures

pub returns-in-Err-clause-reads : goal.returns-in-Err-clause-reads
returns-in-Err-clause-reads c = c.in-Err.ensures.reads (λ h. class.Include h) headers c.at_header.ensures
