use Rattle.std.proofs.Common.{◌≡◌, ◌∷◌, [], true, false, arith}
use Rattle.c_tree.specs.declared.token.Class.TheVariants as class
use Rattle.c_grammar.specs.Grammar as grammar
use Rattle.c_grammar.specs.Grammar.{Ref, ◌⊳◌, word}
use Rattle.c_grammar.specs.Meaning.{next_in}
use Rattle.c_grammar.specs.Trees.{parameter_tree}
use Rattle.c_grammar.proofs.Steps.{passed_on, fails_from, past_fault, past_stop, r_same, r_seq, f_first, f_second}
use Rattle.c_descent.proofs.ItemRows.{grown_start, grown_step, one_and_more}
use Rattle.c_descent.proofs.heading.parameter_declarations.Goals as goal

pub returns-in_err-first-clause-reads : goal.returns-in_err-first-clause-reads
returns-in_err-first-clause-reads c = passed_on _ _ _ _ _ _ _ c.from_residual.ensures.1 (fails_from _ (λ k z h. f_first h) c.in_err-first.ensures.reads)

pub more-init : goal.more-init
more-init c = record { grown = grown_start parameter_tree c.args.level (word class.Comma ⊳ Ref grammar.Parameter) c.in_ok-first.rest.now _; shorter = omega arith }

pub returns-in_err-next-clause-reads : goal.returns-in_err-next-clause-reads
returns-in_err-next-clause-reads c =
    let q : next_in (class.Comma ∷ []) c.more.rest.now ≡ true = cc in
    passed_on _ _ _ _ _ _ _ c.from_residual-in_err-next.ensures.1 (fails_from _ (λ k z h. f_second c.in_ok-first.ensures.reads (past_fault c.more.invariant.grown.past q h)) c.in_err-next.ensures.reads)

pub more-preserved : goal.more-preserved
more-preserved c =
    let q : next_in (class.Comma ∷ []) c.more.rest.now ≡ true = cc in
    record {
      grown = grown_step c.in_ok-next.next c.more.invariant.grown q c.in_ok-next.ensures.reads c.in_ok-push-2.ensures.ok;
      shorter = omega (arith, c.more.invariant.shorter, c.in_ok-next.ensures.shorter);
    }

pub returns-clause-reads : goal.returns-clause-reads
returns-clause-reads c =
    let q : next_in (class.Comma ∷ []) c.more.rest.now ≡ false = cc in
    r_same (r_seq c.in_ok-first.ensures.reads (past_stop c.more.invariant.grown.past q)) (one_and_more c.in_ok-first.first c.new-parameters.ensures c.in_ok-push.ensures.ok c.more.invariant.grown)
