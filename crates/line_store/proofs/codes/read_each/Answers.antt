use Rattle.std.proofs.Common.{◌+◌, List, sym, subst, arith}
use Rattle.std.proofs.lemmas.Result.{err_from_is_err_and}
use Rattle.file_fields.specs.Forms.{repeated}
use Rattle.file_fields.proofs.Items.{GoesOn, begins, goes_on, ends, stops-at}
use Rattle.mpi_words.specs.declared.operation.End.{End}
use Rattle.line_store.specs.Texts.{end_form}
use Rattle.line_store.proofs.codes.read_each.Goals as goal

pub loop-at-init : goal.loop-at-init
loop-at-init c = rw c.new-ends.ensures.items (begins (λ at. end_form) c.args.ranks c.args.text.now)

pub loop-at-preserved : goal.loop-at-preserved
loop-at-preserved c =
    let at = c.loop-at._at in
    subst (λ (l : List End). GoesOn (λ k. end_form) c.args.ranks c.args.text.now (at + 1) l c.read_end.new.text) (sym c.in_ok-push_end.ensures)
    (goes_on (λ k. end_form) c.args.ranks c.args.text.now at c.loop-at.ends.items c.loop-at.text c.in_ok-end.end c.read_end.new.text (omega (arith, c.loop-at-test.true)) c.loop-at.invariant c.in_ok-end.ensures)

pub returns-in_err-end-clause-err : goal.returns-in_err-end-clause-err
returns-in_err-end-clause-err c =
    let p = err_from_is_err_and c.from_residual.result c.from_residual.ensures.1 in
    rw (p.1, p.2) (stops-at (λ k. end_form) c.args.ranks c.args.text.now c.loop-at._at c.loop-at.ends.items c.loop-at.text c.read_end.new.text c.in_err-end.field-0.0 (omega (arith, c.loop-at-test.true)) c.loop-at.invariant c.in_err-end.ensures)

pub returns-clause-ok : goal.returns-clause-ok
unfolding repeated
returns-clause-ok c = ends (λ k. end_form) c.args.ranks c.args.text.now c.loop-at._at c.loop-at.ends.items c.loop-at.text (omega (arith, c.loop-at-test.false)) c.loop-at.invariant
