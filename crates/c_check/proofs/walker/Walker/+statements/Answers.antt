use Rattle.std.proofs.Common.{◌≡◌, ◌+◌, ◌++◌, ◌∙◌, true, List, map, drop, arith, ap, sym, subst}
use Rattle.c_tree.specs.declared.tree.BlockItem.{BlockItem}
use Rattle.c_tree.specs.declared.tree.Stmt.{Stmt}
use Rattle.c_kernel.specs.declared.program.Arm.{Arm}
use Rattle.c_kernel.specs.declared.program.Stmt.{Stmt as Typed}
use Rattle.c_kernel.specs.declared.program.Stmt.TheVariants as typed
use Rattle.c_rules.specs.Judged.{perhaps}
use Rattle.c_rules.specs.Scope.{scope_of}
use Rattle.c_rules.proofs.Gathered.{joined}
use Rattle.c_check.specs.Statement.{Walked, walk_as, one, start, condition, simple, walked, later_arm, node_arm, walked_items, walked_guarded, walked_arm, walked_later, walked_for, walked_branches}
use Rattle.c_check.specs.Told.{Leads, table, within}
use Rattle.c_check.proofs.Bodies.{in_block, in_if, in_while, in_do, in_print, later_step, step_found, step_breaches, step_scope}
use Rattle.c_check.proofs.Steps.{led_same, led_scoped, led_for}
use Rattle.c_check.proofs.walker.Walker.+statements.Goals as goal

-- ---- what the fold makes of a block, an if, a while and a do

pub statement-returns-in-Block : goal.statement-returns-in-Block
statement-returns-in-Block t c =
    let a = c.args.around in
    led_same c.block_statement.result c.args.self.now c.block_statement.new.self _ _
    (sym (in_block (table a.known) a.known.structs.now a.result_type c.in-Block.b c.args.s.now a.looping (scope_of c.args.self.now.scope) c.in-Block.is))
    c.block_statement.ensures

pub statement-returns-in-If : goal.statement-returns-in-If
statement-returns-in-If t c =
    let a = c.args.around in
    let s = scope_of c.args.self.now.scope in
    led_same c.branches.result c.args.self.now c.branches.new.self _ _
    (ap (λ (x : Stmt). within a walked_branches a.looping c.in-If.test x c.in-If.arms c.in-If.otherwise s) c.get.ensures
    ∙ sym (in_if (table a.known) a.known.structs.now a.result_type c.in-If.at c.in-If.test c.in-If.then c.in-If.arms c.in-If.otherwise c.args.s.now a.looping s c.in-If.is))
    c.branches.ensures

pub statement-returns-in-While : goal.statement-returns-in-While
statement-returns-in-While t c =
    let a = c.args.around in
    let s = scope_of c.args.self.now.scope in
    led_same c.while_loop.result c.args.self.now c.while_loop.new.self _ _
    (ap (λ (x : Stmt). walk_as (λ p. typed.While p.0 (one p.1)) (within a walked_guarded true c.in-While.test x) s) c.get-in-While.ensures
    ∙ sym (in_while (table a.known) a.known.structs.now a.result_type c.in-While.at c.in-While.test c.in-While.body c.args.s.now a.looping s c.in-While.is))
    c.while_loop.ensures

pub statement-returns-in-DoWhile : goal.statement-returns-in-DoWhile
statement-returns-in-DoWhile t c =
    let a = c.args.around in
    let s = scope_of c.args.self.now.scope in
    led_same c.do_loop.result c.args.self.now c.do_loop.new.self _ _
    (ap (λ (x : Stmt). walk_as (λ p. typed.DoWhile (one p.1) p.0) (within a walked_guarded true c.in-DoWhile.test x) s) c.get-in-DoWhile.ensures
    ∙ sym (in_do (table a.known) a.known.structs.now a.result_type c.in-DoWhile.at c.in-DoWhile.body c.in-DoWhile.test c.args.s.now a.looping s c.in-DoWhile.is))
    c.do_loop.ensures

pub statement-returns-in-Print : goal.statement-returns-in-Print
statement-returns-in-Print t c =
    let a = c.args.around in
    led_same c.print.result c.args.self.now c.print.new.self _ _
    (sym (in_print (table a.known) a.known.structs.now a.result_type c.in-Print.at c.in-Print.format c.in-Print.arguments c.args.s.now a.looping (scope_of c.args.self.now.scope) c.in-Print.is))
    c.print.ensures

-- ---- a block and a for are left as they were entered

pub block-returns : goal.block-returns
block-returns t c =
    let a = c.args.around in
    let inside = within a walked_items a.looping in
    led_scoped c.args.self.now.judge c.block_items.new.self.judge c.args.self.now.scope c.enter.new.self c.block_items.new.self.scope c.leave.new.self
    (inside c.args.b.now.items) c.in_ok-found.found
    c.in_ok-enter.ensures
    (subst (λ (xs : List (BlockItem Stmt)). Leads (record { judge = c.args.self.now.judge; scope = c.enter.new.self }) c.block_items.new.self c.in_ok-found.found (inside xs (scope_of c.enter.new.self))) c.as_slice.ensures c.in_ok-found.ensures)
    c.leave.ensures

pub for_loop-returns : goal.for_loop-returns
for_loop-returns t c =
    let p = c.args.head in
    led_scoped c.args.self.now.judge c.for_parts.new.self.judge c.args.self.now.scope c.enter.new.self c.for_parts.new.self.scope c.leave.new.self
    (within c.args.around walked_for p.0.now p.1.now p.2.now c.args.body.now) c.in_ok-found.found
    c.in_ok-enter.ensures c.in_ok-found.ensures c.leave.ensures

pub for_parts-returns : goal.for_parts-returns
for_parts-returns t c =
    let a = c.args.around in
    let f = table a.known in
    let structs = a.known.structs.now in
    let p = c.args.head in
    led_for c.for_of.result c.args.self.now c.start.new.self c.statement.new.self c.loop_test.new.self c.loop_step.new.self
    (start f structs p.0.now (scope_of c.args.self.now.scope))
    (λ s. perhaps (condition f structs s) p.1.now) (λ s. perhaps (simple f structs s) p.2.now) (walked f structs a.result_type c.args.body.now true)
    c.in_ok-start.start c.in_ok-test.test c.in_ok-step.step c.in_ok-body.body
    c.in_ok-start.ensures c.in_ok-test.ensures c.in_ok-step.ensures c.in_ok-body.ensures
    c.for_of.ensures

-- ---- one more else if

pub later_arms-loop-x-preserved : goal.later_arms-loop-x-preserved
later_arms-loop-x-preserved t c =
    let a = c.args.around in
    let f = table a.known in
    let structs = a.known.structs.now in
    let result = a.result_type in
    let looping = a.looping in
    let x = c.x-item.result in
    let i = c.loop-x.x-index in
    let before = c.args.self.now in
    let s = scope_of c.loop-x.self.scope in
    let inside = scope_of c.arm.new.self.scope in
    let w = walked_arm f structs result looping x.test x.then in
    let ws = map (later_arm f structs looping) (map (node_arm f structs result) (drop (i + 1) c.args.rest.now)) in
    let whole = walked_later f structs result looping c.args.rest.now (scope_of before.scope) in
    let next = later_step f structs result looping c.args.rest.now i x s (omega arith) c.x-item.is in
    record {
      found = step_found w ws s inside c.loop-x.found c.in_ok-found.found c.in_ok-one.one whole.judged.found
          (subst (λ (v : Walked (List (Arm Typed))). joined c.loop-x.found v.judged.found ≡ whole.judged.found) next c.loop-x.invariant.found)
          c.in_ok-found.ensures c.in_ok-one.ensures.found c.in_ok-one.ensures.scope;
      breaches = step_breaches w ws s inside c.loop-x.self.judge.breaches.items c.arm.new.self.judge.breaches.items (before.judge.breaches.items ++ whole.judged.breaches)
          (subst (λ (v : Walked (List (Arm Typed))). c.loop-x.self.judge.breaches.items ++ v.judged.breaches ≡ before.judge.breaches.items ++ whole.judged.breaches) next c.loop-x.invariant.breaches)
          c.in_ok-one.ensures.breaches c.in_ok-one.ensures.scope;
      scope = step_scope w ws s inside whole.scope
          (subst (λ (v : Walked (List (Arm Typed))). v.scope ≡ whole.scope) next c.loop-x.invariant.scope)
          c.in_ok-one.ensures.scope;
      around = c.in_ok-one.ensures.around ∙ c.loop-x.invariant.around;
    }
