use Rattle.std.proofs.Common.{◌≡◌, true, false, arith, [], ◌∷◌}
use Rattle.std.proofs.lemmas.Result.{err_from_is_err_and}
use Rattle.c_tree.specs.declared.token.Class.TheVariants as class
use Rattle.c_grammar.specs.Meaning.{next_in}
use Rattle.c_grammar.proofs.Grades.{each_push}
use Rattle.c_grammar.proofs.Steps.{fails_from, stops_from, r_seq, f_first, f_second, past_start, past_step, past_stop, past_fault}
use Rattle.c_descent.proofs.statement.leaf.printed.Goals as goal

pub returns-in_err-after-clause-reads : goal.returns-in_err-after-clause-reads
returns-in_err-after-clause-reads c =
    let q : next_in (class.Comma ∷ []) c.arguments.rest.now ≡ true = cc in
    let w = err_from_is_err_and c.from_residual.result c.from_residual.ensures.1 in
    rw (w.1, w.2) (stops_from _ (λ k z h. past_fault c.arguments.invariant.past q (f_first h)) c.in_err-after.ensures.reads)

pub returns-in_err-argument-clause-reads : goal.returns-in_err-argument-clause-reads
returns-in_err-argument-clause-reads c =
    let q : next_in (class.Comma ∷ []) c.arguments.rest.now ≡ true = cc in
    let w = err_from_is_err_and c.from_residual-in_err-argument.result c.from_residual-in_err-argument.ensures.1 in
    rw (w.1, w.2) (fails_from _ (λ k z h. past_fault c.arguments.invariant.past q (f_second c.in_ok-after.ensures.reads h)) c.in_err-argument.ensures.reads)

pub arguments-init : goal.arguments-init
arguments-init c =
    record { past = rw c.new-arguments.ensures (past_start _ _ _); shorter = omega arith }

pub arguments-preserved : goal.arguments-preserved
arguments-preserved c =
    let q : next_in (class.Comma ∷ []) c.arguments.rest.now ≡ true = cc in
    record {
      past = rw (c.in_ok-push.ensures.ok, each_push, c.into_inner.ensures) (past_step c.arguments.invariant.past q (r_seq c.in_ok-after.ensures.reads c.in_ok-argument.ensures.reads));
      shorter = omega (arith, c.arguments.invariant.shorter, c.in_ok-after.ensures.shorter, c.in_ok-argument.ensures.shorter);
    }

pub returns-clause-reads : goal.returns-clause-reads
returns-clause-reads c =
    let q : next_in (class.Comma ∷ []) c.arguments.rest.now ≡ false = cc in
    past_stop c.arguments.invariant.past q
