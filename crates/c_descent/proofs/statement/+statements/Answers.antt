use Rattle.std.proofs.Common.{◌≡◌, true, false, sym, ap, arith, [], ◌∷◌}
use Rattle.std.proofs.lemmas.Result.{err_from_is_err_and}
use Rattle.std.proofs.Common.{Some, None}
use Rattle.c_tree.specs.declared.token.Class.TheVariants as class
use Rattle.c_tree.specs.declared.tree.Stmt.{Stmt}
use Rattle.c_grammar.specs.Grammar.{Ref, BlockItem, ElsePart, TypeSpecifier}
use Rattle.c_grammar.specs.Meaning.{next_in, node, none, starts}
use Rattle.c_grammar.specs.Trees.{statement_row, statement_tree}
use Rattle.c_grammar.proofs.Grades.{each_push}
use Rattle.c_grammar.proofs.Views.{row_block, row_for}
use Rattle.c_descent.proofs.StatementChoices.{at_block, at_do, at_for, at_while, no_holder, passing}
use Rattle.c_descent.proofs.StatementChains.{chain_end, chain_start, chain_step}
use Rattle.c_descent.proofs.StatementShapes.{do_shape, if_shape, while_shape}
use Rattle.c_grammar.proofs.Steps.{fails_from, stops_from, r_seq, r_end, r_same, r_ref, f_ref, f_first, f_second, r_left, r_right, r_no, r_yes, r_deeper, past_start, past_step, past_stop, past_fault}
use Rattle.c_descent.proofs.statement.+statements.Goals as goal

pub block-returns-in_err-at-clause-reads : goal.block-returns-in_err-at-clause-reads
block-returns-in_err-at-clause-reads t c =
    let w = err_from_is_err_and c.from_residual.result c.from_residual.ensures.1 in
    rw (w.1, w.2) (stops_from _ (λ k z h. f_ref (f_first h)) c.in_err-at.ensures.reads)

pub block-returns-in_err-item-clause-reads : goal.block-returns-in_err-item-clause-reads
block-returns-in_err-item-clause-reads t c =
    let q : starts (Ref BlockItem) c.items.rest.now ≡ true = cc in
    let w = err_from_is_err_and c.from_residual-in_err-item.result c.from_residual-in_err-item.ensures.1 in
    rw (w.1, w.2) (fails_from _ (λ k z h. f_ref (f_second c.in_ok-at.ensures.reads (f_first (past_fault c.items.invariant.past q (r_deeper h))))) c.in_err-item.ensures.reads)

pub block-items-init : goal.block-items-init
block-items-init t c =
    record { past = rw c.new-items.ensures (past_start _ _ _); shorter = omega arith }

pub block-items-preserved : goal.block-items-preserved
block-items-preserved t c =
    let q : starts (Ref BlockItem) c.items.rest.now ≡ true = cc in
    record {
      past = rw (c.in_ok-push.ensures.ok, each_push) (past_step c.items.invariant.past q (r_deeper c.in_ok-item.ensures.reads));
      shorter = omega (arith, c.items.invariant.shorter, c.in_ok-item.ensures.shorter);
    }

pub block-returns-in_err-rest-clause-reads : goal.block-returns-in_err-rest-clause-reads
block-returns-in_err-rest-clause-reads t c =
    let q : starts (Ref BlockItem) c.items.rest.now ≡ false = cc in
    let w = err_from_is_err_and c.from_residual-in_err-rest.result c.from_residual-in_err-rest.ensures.1 in
    rw (w.1, w.2) (stops_from _ (λ k z h. f_ref (f_second c.in_ok-at.ensures.reads (f_second (past_stop c.items.invariant.past q) h))) c.in_err-rest.ensures.reads)

pub block-returns-clause-reads : goal.block-returns-clause-reads
block-returns-clause-reads t c =
    let q : starts (Ref BlockItem) c.items.rest.now ≡ false = cc in
    r_ref (r_seq c.in_ok-at.ensures.reads (r_end (past_stop c.items.invariant.past q) c.in_ok-rest.ensures.reads))

pub block_item-returns-in_err-variables-clause-reads : goal.block_item-returns-in_err-variables-clause-reads
block_item-returns-in_err-variables-clause-reads t c =
    let q : starts (Ref TypeSpecifier) c.args.tokens.now ≡ true = cc in
    let w = err_from_is_err_and c.from_residual.result c.from_residual.ensures.1 in
    rw (w.1, w.2) (fails_from _ (λ k z h. f_ref (r_left q (f_first h))) c.in_err-variables.ensures.reads)

pub block_item-returns-in_err-variables-2-clause-reads : goal.block_item-returns-in_err-variables-2-clause-reads
block_item-returns-in_err-variables-2-clause-reads t c =
    let q : starts (Ref TypeSpecifier) c.args.tokens.now ≡ true = cc in
    let w = err_from_is_err_and c.from_residual-in_err-variables-2.result c.from_residual-in_err-variables-2.ensures.1 in
    rw (w.1, w.2) (stops_from _ (λ k z h. f_ref (r_left q (f_second c.in_ok-variables.ensures.reads h))) c.in_err-variables-2.ensures.reads)

pub block_item-returns-then-at_type-clause-reads : goal.block_item-returns-then-at_type-clause-reads
block_item-returns-then-at_type-clause-reads t c =
    let q : starts (Ref TypeSpecifier) c.args.tokens.now ≡ true = cc in
    rw c.in_ok-variables-2.ensures.same (r_ref (r_left q (r_end c.in_ok-variables.ensures.reads c.in_ok-variables-2.ensures.reads)))

pub block_item-returns-in_err-action-clause-reads : goal.block_item-returns-in_err-action-clause-reads
block_item-returns-in_err-action-clause-reads t c =
    let q : starts (Ref TypeSpecifier) c.args.tokens.now ≡ false = cc in
    let w = err_from_is_err_and c.from_residual-in_err-action.result c.from_residual-in_err-action.ensures.1 in
    rw (w.1, w.2) (fails_from _ (λ k z h. f_ref (r_right q h)) c.in_err-action.ensures.reads)

pub block_item-returns-clause-reads : goal.block_item-returns-clause-reads
block_item-returns-clause-reads t c =
    let q : starts (Ref TypeSpecifier) c.args.tokens.now ≡ false = cc in
    r_ref (r_right q c.in_ok-action.ensures.reads)

pub statement-returns-then-not-next_is-clause-reads : goal.statement-returns-then-not-next_is-clause-reads
statement-returns-then-not-next_is-clause-reads t c =
    let q : next_in (class.If ∷ []) c.args.tokens.now ≡ false = cc in
    passing c.plain_statement.result (λ x. statement_row x.0) (λ x. statement_tree (statement_row x.0)) (λ x. x.1.now) _ _ _ _ (λ x h. r_ref (r_right q h)) (λ k z h. f_ref (r_right q h)) c.plain_statement.ensures.reads

pub statement-returns-in_err-at-clause-reads : goal.statement-returns-in_err-at-clause-reads
statement-returns-in_err-at-clause-reads t c =
    let q : next_in (class.If ∷ []) c.args.tokens.now ≡ true = cc in
    let w = err_from_is_err_and c.from_residual.result c.from_residual.ensures.1 in
    rw (w.1, w.2) (stops_from _ (λ k z h. f_ref (r_left q (f_ref (f_first h)))) c.in_err-at.ensures.reads)

pub statement-returns-in_err-test-clause-reads : goal.statement-returns-in_err-test-clause-reads
statement-returns-in_err-test-clause-reads t c =
    let q : next_in (class.If ∷ []) c.args.tokens.now ≡ true = cc in
    let w = err_from_is_err_and c.from_residual-in_err-test.result c.from_residual-in_err-test.ensures.1 in
    rw (w.1, w.2) (fails_from _ (λ k z h. f_ref (r_left q (f_ref (f_second c.in_ok-at.ensures.reads (f_first h))))) c.in_err-test.ensures.reads)

pub statement-returns-in_err-then-clause-reads : goal.statement-returns-in_err-then-clause-reads
statement-returns-in_err-then-clause-reads t c =
    let q : next_in (class.If ∷ []) c.args.tokens.now ≡ true = cc in
    let w = err_from_is_err_and c.from_residual-in_err-then.result c.from_residual-in_err-then.ensures.1 in
    rw (w.1, w.2) (fails_from _ (λ k z h. f_ref (r_left q (f_ref (f_second c.in_ok-at.ensures.reads (f_second c.in_ok-test.ensures.reads (f_first (r_deeper h))))))) c.in_err-then.ensures.reads)

pub statement-returns-in_err-arms-clause-reads : goal.statement-returns-in_err-arms-clause-reads
statement-returns-in_err-arms-clause-reads t c =
    let q : next_in (class.If ∷ []) c.args.tokens.now ≡ true = cc in
    let w = err_from_is_err_and c.from_residual-in_err-arms.result c.from_residual-in_err-arms.ensures.1 in
    rw (w.1, w.2) (fails_from _ (λ k z h. f_ref (r_left q (f_ref (f_second c.in_ok-at.ensures.reads (f_second c.in_ok-test.ensures.reads (f_second (r_deeper c.in_ok-then.ensures.reads) h)))))) c.in_err-arms.ensures.reads)

pub statement-returns-clause-reads : goal.statement-returns-clause-reads
statement-returns-clause-reads t c =
    let q : next_in (class.If ∷ []) c.args.tokens.now ≡ true = cc in
    r_same (r_ref (r_left q (r_ref (r_seq c.in_ok-at.ensures.reads (r_seq c.in_ok-test.ensures.reads (r_seq (r_deeper c.in_ok-then.ensures.reads) c.in_ok-arms.ensures.reads)))))) (if_shape _ c.in_ok-test.test c.into_inner.result c.in_ok-then.then c.in_ok-arms.arms c.in_ok-arms.otherwise c.into_inner.ensures)

pub boxed_statement-returns-in_err-action-clause-reads : goal.boxed_statement-returns-in_err-action-clause-reads
boxed_statement-returns-in_err-action-clause-reads t c =
    let w = err_from_is_err_and c.from_residual.result c.from_residual.ensures.1 in
    rw (w.1, w.2) (fails_from _ (λ k z h. h) c.in_err-action.ensures.reads)

pub boxed_statement-returns-clause-reads : goal.boxed_statement-returns-clause-reads
boxed_statement-returns-clause-reads t c =
    r_same c.in_ok-action.ensures.reads (ap (λ (s : Stmt). statement_tree (statement_row s)) (sym c.in_ok-action-2.ensures))

pub else_part-returns-in_err-after-clause-reads : goal.else_part-returns-in_err-after-clause-reads
else_part-returns-in_err-after-clause-reads t c =
    let p : next_in (class.Else ∷ []) c.arms.rest.now ≡ true = cc in
    let w = err_from_is_err_and c.from_residual.result c.from_residual.ensures.1 in
    rw (w.1, w.2) (stops_from _ (λ k z h. c.arms.invariant.past.fails k z (f_ref (r_yes p (f_first h)))) c.in_err-after.ensures.reads)

pub else_part-returns-in_err-last-clause-reads : goal.else_part-returns-in_err-last-clause-reads
else_part-returns-in_err-last-clause-reads t c =
    let p : next_in (class.Else ∷ []) c.arms.rest.now ≡ true = cc in
    let q : next_in (class.If ∷ []) c.in_ok-after.after.now ≡ false = cc in
    let w = err_from_is_err_and c.from_residual-in_err-last.result c.from_residual-in_err-last.ensures.1 in
    rw (w.1, w.2) (fails_from _ (λ k z h. c.arms.invariant.past.fails k z (f_ref (r_yes p (f_second c.in_ok-after.ensures.reads (r_right q (r_deeper h)))))) c.in_err-last.ensures.reads)

pub else_part-returns-then-not-next_is-clause-reads : goal.else_part-returns-then-not-next_is-clause-reads
else_part-returns-then-not-next_is-clause-reads t c =
    let p : next_in (class.Else ∷ []) c.arms.rest.now ≡ true = cc in
    let q : next_in (class.If ∷ []) c.in_ok-after.after.now ≡ false = cc in
    chain_end (Some c.in_ok-last-2.last) c.arms.invariant.past (r_same (r_ref (r_yes p (r_seq c.in_ok-after.ensures.reads (r_right q (r_deeper c.in_ok-last.ensures.reads))))) (ap (λ (s : Stmt). node ElsePart (statement_row s) none) (sym c.in_ok-last-2.ensures)))

pub else_part-returns-in_err-after-2-clause-reads : goal.else_part-returns-in_err-after-2-clause-reads
else_part-returns-in_err-after-2-clause-reads t c =
    let p : next_in (class.Else ∷ []) c.arms.rest.now ≡ true = cc in
    let q : next_in (class.If ∷ []) c.in_ok-after.after.now ≡ true = cc in
    let w = err_from_is_err_and c.from_residual-in_err-after-2.result c.from_residual-in_err-after-2.ensures.1 in
    rw (w.1, w.2) (stops_from _ (λ k z h. c.arms.invariant.past.fails k z (f_ref (r_yes p (f_second c.in_ok-after.ensures.reads (r_left q (f_first h)))))) c.in_err-after-2.ensures.reads)

pub else_part-returns-in_err-test-clause-reads : goal.else_part-returns-in_err-test-clause-reads
else_part-returns-in_err-test-clause-reads t c =
    let p : next_in (class.Else ∷ []) c.arms.rest.now ≡ true = cc in
    let q : next_in (class.If ∷ []) c.in_ok-after.after.now ≡ true = cc in
    let w = err_from_is_err_and c.from_residual-in_err-test.result c.from_residual-in_err-test.ensures.1 in
    rw (w.1, w.2) (fails_from _ (λ k z h. c.arms.invariant.past.fails k z (f_ref (r_yes p (f_second c.in_ok-after.ensures.reads (r_left q (f_second c.in_ok-after-2.ensures.reads (f_first h))))))) c.in_err-test.ensures.reads)

pub else_part-returns-in_err-then-clause-reads : goal.else_part-returns-in_err-then-clause-reads
else_part-returns-in_err-then-clause-reads t c =
    let p : next_in (class.Else ∷ []) c.arms.rest.now ≡ true = cc in
    let q : next_in (class.If ∷ []) c.in_ok-after.after.now ≡ true = cc in
    let w = err_from_is_err_and c.from_residual-in_err-then.result c.from_residual-in_err-then.ensures.1 in
    rw (w.1, w.2) (fails_from _ (λ k z h. c.arms.invariant.past.fails k z (f_ref (r_yes p (f_second c.in_ok-after.ensures.reads (r_left q (f_second c.in_ok-after-2.ensures.reads (f_second c.in_ok-test.ensures.reads (f_first (r_deeper h))))))))) c.in_err-then.ensures.reads)

pub else_part-arms-init : goal.else_part-arms-init
else_part-arms-init t c =
    record { past = chain_start _ _ _ c.new-arms.ensures; shorter = omega arith }

pub else_part-arms-preserved : goal.else_part-arms-preserved
else_part-arms-preserved t c =
    let p : next_in (class.Else ∷ []) c.arms.rest.now ≡ true = cc in
    let q : next_in (class.If ∷ []) c.in_ok-after.after.now ≡ true = cc in
    record {
      past = chain_step c.args.level c.args.tokens.now c.arms.rest.now c.in_ok-then.after.now c.arms.arms c.push.new.self (record { test = c.in_ok-test.test; then = c.in_ok-then.then }) (rw (sym c.into_inner-test.ensures) c.in_ok-push.ensures.ok) c.arms.invariant.past (record {
        reads = λ more last zs h. r_ref (r_yes p (r_seq c.in_ok-after.ensures.reads (r_left q (r_seq c.in_ok-after-2.ensures.reads (r_seq c.in_ok-test.ensures.reads (r_seq (r_deeper c.in_ok-then.ensures.reads) h))))));
        fails = λ k z h. f_ref (r_yes p (f_second c.in_ok-after.ensures.reads (r_left q (f_second c.in_ok-after-2.ensures.reads (f_second c.in_ok-test.ensures.reads (f_second (r_deeper c.in_ok-then.ensures.reads) h))))));
      });
      shorter = omega (arith, c.arms.invariant.shorter, c.in_ok-after.ensures.shorter, c.in_ok-after-2.ensures.shorter, c.in_ok-test.ensures.shorter, c.in_ok-then.ensures.shorter);
    }

pub else_part-returns-clause-reads : goal.else_part-returns-clause-reads
else_part-returns-clause-reads t c =
    let p : next_in (class.Else ∷ []) c.arms.rest.now ≡ false = cc in
    chain_end None c.arms.invariant.past (r_ref (r_no p))

pub plain_statement-returns-in_err-items-clause-reads : goal.plain_statement-returns-in_err-items-clause-reads
plain_statement-returns-in_err-items-clause-reads t c =
    let q : next_in (class.LeftBrace ∷ []) c.args.tokens.now ≡ true = cc in
    let w = err_from_is_err_and c.from_residual.result c.from_residual.ensures.1 in
    rw (w.1, w.2) (fails_from _ (λ k z h. f_ref (at_block q h)) c.in_err-items.ensures.reads)

pub plain_statement-returns-then-next_is-clause-reads : goal.plain_statement-returns-then-next_is-clause-reads
plain_statement-returns-then-next_is-clause-reads t c =
    let q : next_in (class.LeftBrace ∷ []) c.args.tokens.now ≡ true = cc in
    r_same (r_ref (at_block q c.in_ok-items.ensures.reads)) (sym (row_block c.in_ok-items.items))

pub plain_statement-returns-then-next_is-2-clause-reads : goal.plain_statement-returns-then-next_is-2-clause-reads
plain_statement-returns-then-next_is-2-clause-reads t c =
    let q : next_in (class.While ∷ []) c.args.tokens.now ≡ true = cc in
    c.while_statement.ensures.reads q

pub plain_statement-returns-then-next_is-3-clause-reads : goal.plain_statement-returns-then-next_is-3-clause-reads
plain_statement-returns-then-next_is-3-clause-reads t c =
    let q : next_in (class.Do ∷ []) c.args.tokens.now ≡ true = cc in
    c.do_statement.ensures.reads q

pub plain_statement-returns-then-next_is-4-clause-reads : goal.plain_statement-returns-then-next_is-4-clause-reads
plain_statement-returns-then-next_is-4-clause-reads t c =
    let q : next_in (class.For ∷ []) c.args.tokens.now ≡ true = cc in
    c.for_statement.ensures.reads q

pub plain_statement-returns-clause-reads : goal.plain_statement-returns-clause-reads
plain_statement-returns-clause-reads t c =
    let p0 : next_in (class.LeftBrace ∷ []) c.args.tokens.now ≡ false = cc in
    let p1 : next_in (class.While ∷ []) c.args.tokens.now ≡ false = cc in
    let p2 : next_in (class.Do ∷ []) c.args.tokens.now ≡ false = cc in
    let p3 : next_in (class.For ∷ []) c.args.tokens.now ≡ false = cc in
    c.leaf_statement.ensures.reads (no_holder c.args.tokens.now p0 p1 p2 p3)

pub while_statement-returns-in_err-at-clause-reads : goal.while_statement-returns-in_err-at-clause-reads
while_statement-returns-in_err-at-clause-reads t c q =
    let w = err_from_is_err_and c.from_residual.result c.from_residual.ensures.1 in
    rw (w.1, w.2) (stops_from _ (λ k z h. f_ref (at_while q (f_ref (f_first h)))) c.in_err-at.ensures.reads)

pub while_statement-returns-in_err-test-clause-reads : goal.while_statement-returns-in_err-test-clause-reads
while_statement-returns-in_err-test-clause-reads t c q =
    let w = err_from_is_err_and c.from_residual-in_err-test.result c.from_residual-in_err-test.ensures.1 in
    rw (w.1, w.2) (fails_from _ (λ k z h. f_ref (at_while q (f_ref (f_second c.in_ok-at.ensures.reads (f_first h))))) c.in_err-test.ensures.reads)

pub while_statement-returns-in_err-body-clause-reads : goal.while_statement-returns-in_err-body-clause-reads
while_statement-returns-in_err-body-clause-reads t c q =
    let w = err_from_is_err_and c.from_residual-in_err-body.result c.from_residual-in_err-body.ensures.1 in
    rw (w.1, w.2) (fails_from _ (λ k z h. f_ref (at_while q (f_ref (f_second c.in_ok-at.ensures.reads (f_second c.in_ok-test.ensures.reads (r_deeper h)))))) c.in_err-body.ensures.reads)

pub while_statement-returns-clause-reads : goal.while_statement-returns-clause-reads
while_statement-returns-clause-reads t c q =
    r_same (r_ref (at_while q (r_ref (r_seq c.in_ok-at.ensures.reads (r_seq c.in_ok-test.ensures.reads (r_deeper c.in_ok-body.ensures.reads)))))) (while_shape _ c.in_ok-test.test c.into_inner-test.result c.in_ok-body.body c.into_inner-test.ensures)

pub do_statement-returns-in_err-at-clause-reads : goal.do_statement-returns-in_err-at-clause-reads
do_statement-returns-in_err-at-clause-reads t c q =
    let w = err_from_is_err_and c.from_residual.result c.from_residual.ensures.1 in
    rw (w.1, w.2) (stops_from _ (λ k z h. f_ref (at_do q (f_ref (f_first h)))) c.in_err-at.ensures.reads)

pub do_statement-returns-in_err-body-clause-reads : goal.do_statement-returns-in_err-body-clause-reads
do_statement-returns-in_err-body-clause-reads t c q =
    let w = err_from_is_err_and c.from_residual-in_err-body.result c.from_residual-in_err-body.ensures.1 in
    rw (w.1, w.2) (fails_from _ (λ k z h. f_ref (at_do q (f_ref (f_second c.in_ok-at.ensures.reads (f_first (r_deeper h)))))) c.in_err-body.ensures.reads)

pub do_statement-returns-in_err-test-clause-reads : goal.do_statement-returns-in_err-test-clause-reads
do_statement-returns-in_err-test-clause-reads t c q =
    let w = err_from_is_err_and c.from_residual-in_err-test.result c.from_residual-in_err-test.ensures.1 in
    rw (w.1, w.2) (fails_from _ (λ k z h. f_ref (at_do q (f_ref (f_second c.in_ok-at.ensures.reads (f_second (r_deeper c.in_ok-body.ensures.reads) h))))) c.in_err-test.ensures.reads)

pub do_statement-returns-clause-reads : goal.do_statement-returns-clause-reads
do_statement-returns-clause-reads t c q =
    r_same (r_ref (at_do q (r_ref (r_seq c.in_ok-at.ensures.reads (r_seq (r_deeper c.in_ok-body.ensures.reads) c.in_ok-test.ensures.reads))))) (do_shape _ c.in_ok-body.body c.in_ok-test.test c.into_inner-test.result c.into_inner-test.ensures)

pub for_statement-returns-in_err-at-clause-reads : goal.for_statement-returns-in_err-at-clause-reads
for_statement-returns-in_err-at-clause-reads t c q =
    let w = err_from_is_err_and c.from_residual.result c.from_residual.ensures.1 in
    rw (w.1, w.2) (stops_from _ (λ k z h. f_ref (at_for q (f_ref (f_first h)))) c.in_err-at.ensures.reads)

pub for_statement-returns-in_err-clauses-clause-reads : goal.for_statement-returns-in_err-clauses-clause-reads
for_statement-returns-in_err-clauses-clause-reads t c q =
    let w = err_from_is_err_and c.from_residual-in_err-clauses.result c.from_residual-in_err-clauses.ensures.1 in
    rw (w.1, w.2) (fails_from _ (λ k z h. f_ref (at_for q (f_ref (f_second c.in_ok-at.ensures.reads (f_first h))))) c.in_err-clauses.ensures.reads)

pub for_statement-returns-in_err-body-clause-reads : goal.for_statement-returns-in_err-body-clause-reads
for_statement-returns-in_err-body-clause-reads t c q =
    let w = err_from_is_err_and c.from_residual-in_err-body.result c.from_residual-in_err-body.ensures.1 in
    rw (w.1, w.2) (fails_from _ (λ k z h. f_ref (at_for q (f_ref (f_second c.in_ok-at.ensures.reads (f_second c.in_ok-clauses.ensures.reads (r_deeper h)))))) c.in_err-body.ensures.reads)

pub for_statement-returns-clause-reads : goal.for_statement-returns-clause-reads
for_statement-returns-clause-reads t c q =
    rw (c.unboxed.ensures, c.unboxed-2.ensures, c.into_inner-start.ensures) (r_same (r_ref (at_for q (r_ref (r_seq c.in_ok-at.ensures.reads (r_seq c.in_ok-clauses.ensures.reads (r_deeper c.in_ok-body.ensures.reads)))))) (sym (row_for c.in_ok-at.at c.in_ok-clauses.clauses.start c.in_ok-clauses.clauses.test c.in_ok-clauses.clauses.step c.in_ok-body.body)))
