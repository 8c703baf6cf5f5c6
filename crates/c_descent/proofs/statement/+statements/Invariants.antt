use Rattle.std.proofs.Common.{◌≤◌, ◌+◌, ◌-◌, ◌*◌, length}
use Rattle.c_grammar.specs.Grammar.{BlockItem, Deeper, Ref}
use Rattle.c_grammar.specs.Meaning.{limit}
use Rattle.c_grammar.specs.Trees.{block_item_tree, each, statement_row}
use Rattle.c_grammar.proofs.Steps.{Past}
use Rattle.c_descent.proofs.StatementChains.{Chained}
use Rattle.c_descent.proofs.statement.+statements.Given as goal

abbrev pub decreases-block : goal.decreases-block
decreases-block l = (limit + 1 - l.level) * 16 + 1

abbrev pub decreases-block_item : goal.decreases-block_item
decreases-block_item l = (limit + 1 - l.level) * 16 + 4

abbrev pub decreases-statement : goal.decreases-statement
decreases-statement l = (limit + 1 - l.level) * 16 + 3

abbrev pub decreases-boxed_statement : goal.decreases-boxed_statement
decreases-boxed_statement l = (limit + 1 - l.level) * 16 + 4

abbrev pub decreases-else_part : goal.decreases-else_part
decreases-else_part l = (limit + 1 - l.level) * 16 + 1

abbrev pub decreases-plain_statement : goal.decreases-plain_statement
decreases-plain_statement l = (limit + 1 - l.level) * 16 + 2

abbrev pub decreases-while_statement : goal.decreases-while_statement
decreases-while_statement l = (limit + 1 - l.level) * 16 + 1

abbrev pub decreases-do_statement : goal.decreases-do_statement
decreases-do_statement l = (limit + 1 - l.level) * 16 + 1

abbrev pub decreases-for_statement : goal.decreases-for_statement
decreases-for_statement l = (limit + 1 - l.level) * 16 + 1

abbrev pub invariant-block-items : goal.invariant-block-items
invariant-block-items l =
    record {
      past : Past l.level (Deeper (Ref BlockItem)) l.initial.rest l.rest (each (block_item_tree statement_row) l.items);
      shorter : length l.rest ≤ length l.initial.rest;
    }

abbrev pub decreases-block-items : goal.decreases-block-items
decreases-block-items l = length l.rest

abbrev pub invariant-else_part-arms : goal.invariant-else_part-arms
invariant-else_part-arms l =
    record {
      past : Chained l.level l.initial.rest l.rest l.arms;
      shorter : length l.rest ≤ length l.initial.rest;
    }

abbrev pub decreases-else_part-arms : goal.decreases-else_part-arms
decreases-else_part-arms l = length l.rest
