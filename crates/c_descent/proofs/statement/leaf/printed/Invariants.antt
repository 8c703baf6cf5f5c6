use Rattle.std.proofs.Common.{◌≤◌, length}
use Rattle.c_grammar.specs.Grammar.{comma, e, ◌⊳◌}
use Rattle.c_grammar.specs.Trees.{each, expression_tree}
use Rattle.c_grammar.proofs.Steps.{Past}
use Rattle.c_descent.proofs.statement.leaf.printed.Given as goal

abbrev pub invariant-arguments : goal.invariant-arguments
invariant-arguments l =
    record {
      past : Past l.level (comma ⊳ e) l.initial.rest l.rest (each expression_tree l.arguments);
      shorter : length l.rest ≤ length l.initial.rest;
    }

abbrev pub decreases-arguments : goal.decreases-arguments
decreases-arguments l = length l.rest
