use Rattle.std.proofs.Common.{◌≤◌, ◌+◌, length}
use Rattle.c_tree.specs.declared.token.Class.TheVariants as class
use Rattle.c_tree.specs.declared.token.Operator.TheVariants as operator
use Rattle.c_grammar.specs.Grammar.{shown}
use Rattle.c_grammar.specs.Trees.{star_row}
use Rattle.c_grammar.proofs.Steps.{Past}
use Rattle.c_descent.proofs.types.stars.Given as goal

abbrev pub invariant-stars : goal.invariant-stars
invariant-stars l =
    record {
      past : Past l.level (shown (class.Sign operator.Star)) l.initial.rest l.rest (star_row l.count);
      fits : l.count + length l.rest ≤ length l.initial.rest;
    }

abbrev pub decreases-stars : goal.decreases-stars
decreases-stars l = length l.rest
