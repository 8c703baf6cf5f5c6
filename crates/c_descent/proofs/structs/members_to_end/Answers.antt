use Rattle.std.proofs.Common.{◌≡◌, true, false, arith}
use Rattle.c_grammar.specs.Grammar as grammar
use Rattle.c_grammar.specs.Grammar.{Ref}
use Rattle.c_grammar.specs.Meaning.{starts}
use Rattle.c_grammar.specs.Trees.{members_tree}
use Rattle.c_grammar.proofs.Steps.{passed_on, stop_passed_on, fails_from, stops_from, past_fault, past_stop, r_same, r_seq, r_end, f_first, f_second}
use Rattle.c_descent.proofs.ItemRows.{grown_start, grown_step, one_and_more}
use Rattle.c_descent.proofs.structs.members_to_end.Goals as goal

pub returns-in_err-first-clause-reads : goal.returns-in_err-first-clause-reads
returns-in_err-first-clause-reads c = passed_on _ _ _ _ _ _ _ c.from_residual.ensures.1 (fails_from _ (λ k z h. f_first h) c.in_err-first.ensures.reads)

pub more-init : goal.more-init
more-init c = record { grown = grown_start members_tree c.args.level (Ref grammar.MemberDeclaration) c.in_ok-first.rest.now _; shorter = omega arith }

pub returns-in_err-next-clause-reads : goal.returns-in_err-next-clause-reads
returns-in_err-next-clause-reads c =
    let q : starts (Ref grammar.MemberDeclaration) c.more.rest.now ≡ true = cc in
    passed_on _ _ _ _ _ _ _ c.from_residual-in_err-next.ensures.1 (fails_from _ (λ k z h. f_second c.in_ok-first.ensures.reads (f_first (past_fault c.more.invariant.grown.past q h))) c.in_err-next.ensures.reads)

pub more-preserved : goal.more-preserved
more-preserved c =
    let q : starts (Ref grammar.MemberDeclaration) c.more.rest.now ≡ true = cc in
    record {
      grown = grown_step c.in_ok-next.next c.more.invariant.grown q c.in_ok-next.ensures.reads c.in_ok-push-2.ensures.ok;
      shorter = omega (arith, c.more.invariant.shorter, c.in_ok-next.ensures.shorter);
    }

pub returns-in_err-rest-clause-reads : goal.returns-in_err-rest-clause-reads
returns-in_err-rest-clause-reads c =
    let q : starts (Ref grammar.MemberDeclaration) c.more.rest.now ≡ false = cc in
    stop_passed_on _ _ _ _ _ _ _ c.from_residual-in_err-rest.ensures.1 (stops_from _ (λ k z h. f_second c.in_ok-first.ensures.reads (f_second (past_stop c.more.invariant.grown.past q) (f_first h))) c.in_err-rest.ensures.reads)

pub returns-in_err-rest-2-clause-reads : goal.returns-in_err-rest-2-clause-reads
returns-in_err-rest-2-clause-reads c =
    let q : starts (Ref grammar.MemberDeclaration) c.more.rest.now ≡ false = cc in
    stop_passed_on _ _ _ _ _ _ _ c.from_residual-in_err-rest-2.ensures.1 (stops_from _ (λ k z h. f_second c.in_ok-first.ensures.reads (f_second (past_stop c.more.invariant.grown.past q) (f_second c.in_ok-rest.ensures.reads h))) c.in_err-rest-2.ensures.reads)

pub returns-clause-reads : goal.returns-clause-reads
returns-clause-reads c =
    let q : starts (Ref grammar.MemberDeclaration) c.more.rest.now ≡ false = cc in
    r_same (r_seq c.in_ok-first.ensures.reads (r_end (past_stop c.more.invariant.grown.past q) (r_seq c.in_ok-rest.ensures.reads c.in_ok-rest-2.ensures.reads))) (one_and_more c.in_ok-first.first c.new-members.ensures c.in_ok-push.ensures.ok c.more.invariant.grown)
