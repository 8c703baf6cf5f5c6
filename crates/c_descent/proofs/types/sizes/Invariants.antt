use Rattle.std.proofs.Common.{◌≤◌, length}
use Rattle.c_grammar.specs.Grammar.{size}
use Rattle.c_grammar.specs.Trees.{number_row}
use Rattle.c_descent.proofs.ItemRows.{Grown}
use Rattle.c_descent.proofs.types.sizes.Given as goal

abbrev pub invariant-sizes : goal.invariant-sizes
invariant-sizes l =
    record {
      grown : Grown number_row l.level size l.initial.rest l.rest l.initial.sizes l.sizes;
      shorter : length l.rest ≤ length l.initial.rest;
    }

abbrev pub decreases-sizes : goal.decreases-sizes
decreases-sizes l = length l.rest
