use Rattle.std.proofs.Common.{◌+◌, ◌*◌, max, drop}
use denote.Param.Weighed.{most}
use Rattle.c_tree.proofs.tree.Stmt.TheLaws.{the_size}
use Rattle.c_tree.specs.declared.tree.Stmt.TheShapes as shapes
use Rattle.c_check.specs.Statement.{walked_items, walked_later}
use Rattle.c_check.specs.Told.{within}
use Rattle.c_check.proofs.Steps.{Leaves}
use Rattle.c_check.proofs.walker.Walker.+statements.Given as goal

-- a statement's depth, and how near a function is to the statement that it goes down to

abbrev pub decreases-statement : goal.decreases-statement
decreases-statement l = 16 * goal.size-statement l

abbrev pub decreases-block_item : goal.decreases-block_item
decreases-block_item l = 16 * goal.size-block_item l + 1

abbrev pub decreases-block_items : goal.decreases-block_items
decreases-block_items l = 16 * goal.size-block_items l + 2

abbrev pub decreases-block : goal.decreases-block
decreases-block l = 16 * goal.size-block l + 3

abbrev pub decreases-block_statement : goal.decreases-block_statement
decreases-block_statement l = 16 * goal.size-block_statement l + 4

abbrev pub decreases-guarded : goal.decreases-guarded
decreases-guarded l = 16 * the_size l.body.now + 1

abbrev pub decreases-while_loop : goal.decreases-while_loop
decreases-while_loop l = 16 * the_size l.body.now + 2

abbrev pub decreases-do_loop : goal.decreases-do_loop
decreases-do_loop l = 16 * the_size l.body.now + 2

abbrev pub decreases-arm : goal.decreases-arm
decreases-arm l = 16 * the_size l.body.now + 2

abbrev pub decreases-later_arms : goal.decreases-later_arms
decreases-later_arms l = 16 * goal.size-later_arms l + 3

abbrev pub decreases-arms : goal.decreases-arms
decreases-arms l = 16 * max (the_size l.then.now) (most (λ x. shapes.weighed-Stmt-If-3-at-2.weight _ the_size x) l.rest.now) + 4

abbrev pub decreases-last_branch : goal.decreases-last_branch
decreases-last_branch l = 16 * goal.size-last_branch l + 1

abbrev pub decreases-branches : goal.decreases-branches
decreases-branches l = 16 * max (max (the_size l.first.1.now) (shapes.weighed-Stmt-If-3.weight _ the_size l.rest.now)) (shapes.weighed-Stmt-If-4.weight _ the_size l.last.now) + 5

abbrev pub decreases-for_parts : goal.decreases-for_parts
decreases-for_parts l = 16 * goal.size-for_parts l + 1

abbrev pub decreases-for_loop : goal.decreases-for_loop
decreases-for_loop l = 16 * goal.size-for_loop l + 2

abbrev pub invariant-block_items-loop-item : goal.invariant-block_items-loop-item
invariant-block_items-loop-item l =
    let walks = within l.around walked_items l.around.looping in
    Leaves l.fn.self l.self l.found (walks (drop l.item-index l.items)) (walks l.items)

abbrev pub invariant-later_arms-loop-x : goal.invariant-later_arms-loop-x
invariant-later_arms-loop-x l =
    let walks = within l.around walked_later l.around.looping in
    Leaves l.fn.self l.self l.found (walks (drop l.x-index l.rest)) (walks l.rest)
