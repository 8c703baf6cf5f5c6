use Rattle.c_grammar.specs.Grammar.{increments}
use Rattle.c_grammar.specs.Trees.{step_class}
use Rattle.c_descent.proofs.statement.simple.read_step.Goals as goal

pub returns-clause-reads : goal.returns-clause-reads
returns-clause-reads c =
    c.pick.ensures.reads step_class increments c.at_step.ensures
