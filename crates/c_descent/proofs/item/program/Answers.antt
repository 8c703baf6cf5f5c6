use Rattle.std.proofs.Common.{◌≡◌, true, false, arith}
use Rattle.c_grammar.specs.Grammar as grammar
use Rattle.c_grammar.specs.Grammar.{Ref}
use Rattle.c_grammar.specs.Meaning.{starts}
use Rattle.c_grammar.specs.Trees.{item_tree}
use Rattle.c_grammar.proofs.Steps.{passed_on, fails_from, past_fault, past_stop, r_ref, f_ref, r_same}
use Rattle.c_descent.proofs.ItemRows.{grown_start, grown_step, all_of_them}
use Rattle.c_descent.proofs.item.program.Goals as goal

pub returns-in_err-next-clause-reads : goal.returns-in_err-next-clause-reads
returns-in_err-next-clause-reads c =
    let q : starts (Ref grammar.Item) c.items.rest.now ≡ true = cc in
    passed_on _ _ _ _ _ _ _ c.from_residual.ensures.1 (fails_from _ (λ k z h. f_ref (past_fault c.items.invariant.grown.past q h)) c.in_err-next.ensures.reads)

pub items-init : goal.items-init
items-init c = record { grown = grown_start item_tree c.args.level (Ref grammar.Item) c.args.tokens.now _; shorter = omega arith }

pub items-preserved : goal.items-preserved
items-preserved c =
    let q : starts (Ref grammar.Item) c.items.rest.now ≡ true = cc in
    record {
      grown = grown_step c.in_ok-next.next c.items.invariant.grown q c.in_ok-next.ensures.reads c.in_ok-push.ensures.ok;
      shorter = omega (arith, c.items.invariant.shorter, c.in_ok-next.ensures.shorter);
    }

pub returns-clause-reads : goal.returns-clause-reads
returns-clause-reads c =
    let q : starts (Ref grammar.Item) c.items.rest.now ≡ false = cc in
    r_ref (r_same (past_stop c.items.invariant.grown.past q) (all_of_them c.new-items.ensures c.items.invariant.grown))
