use Rattle.std.proofs.Common.{◌≤◌, length}
use Rattle.c_tree.specs.declared.token.Class.TheVariants as class
use Rattle.c_grammar.specs.Grammar as grammar
use Rattle.c_grammar.specs.Grammar.{Ref, ◌⊳◌, word}
use Rattle.c_grammar.specs.Trees.{parameter_tree}
use Rattle.c_descent.proofs.ItemRows.{Grown}
use Rattle.c_descent.proofs.heading.parameter_declarations.Given as goal

abbrev pub invariant-more : goal.invariant-more
invariant-more l =
    record {
      grown : Grown parameter_tree l.level (word class.Comma ⊳ Ref grammar.Parameter) l.initial.rest l.rest l.initial.parameters l.parameters;
      shorter : length l.rest ≤ length l.initial.rest;
    }

abbrev pub decreases-more : goal.decreases-more
decreases-more l = length l.rest
