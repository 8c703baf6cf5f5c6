use Rattle.std.proofs.Common.{◌≤◌, length}
use Rattle.c_grammar.specs.Grammar as grammar
use Rattle.c_grammar.specs.Grammar.{Ref}
use Rattle.c_grammar.specs.Trees.{item_tree}
use Rattle.c_descent.proofs.ItemRows.{Grown}
use Rattle.c_descent.proofs.item.program.Given as goal

abbrev pub invariant-items : goal.invariant-items
invariant-items l =
    record {
      grown : Grown item_tree l.level (Ref grammar.Item) l.initial.rest l.rest l.initial.items l.items;
      shorter : length l.rest ≤ length l.initial.rest;
    }

abbrev pub decreases-items : goal.decreases-items
decreases-items l = length l.rest
