use Rattle.std.proofs.Common.{◌∷◌, []}
use Rattle.c_tree.specs.declared.token.Class.TheVariants as class
use Rattle.c_grammar.specs.Trees.{access_class}
use Rattle.c_descent.proofs.expression.ahead.access.Goals as goal

pub returns-in-Ok-clause-reads : goal.returns-in-Ok-clause-reads
returns-in-Ok-clause-reads c = c.in-Ok.ensures.reads access_class (class.Dot ∷ class.Arrow ∷ []) c.at_access.ensures

pub returns-in-Err-clause-reads : goal.returns-in-Err-clause-reads
returns-in-Err-clause-reads c = c.in-Err.ensures.reads access_class (class.Dot ∷ class.Arrow ∷ []) c.at_access.ensures
