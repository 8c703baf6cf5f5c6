use Rattle.c_grammar.specs.Grammar.{assignments}
use Rattle.c_grammar.specs.Readers.{assign_class}
use Rattle.c_descent.proofs.statement.simple.assignment.Goals as goal

pub returns-clause-reads : goal.returns-clause-reads
returns-clause-reads c =
    c.pick.ensures.reads assign_class assignments c.at_assignment.ensures
