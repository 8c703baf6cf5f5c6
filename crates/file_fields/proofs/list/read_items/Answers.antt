use Rattle.std.proofs.Common.{◌+◌, sym, subst, arith}
use Rattle.std.proofs.lemmas.Result.{err_from_is_err_and}
use Rattle.file_fields.specs.Forms.{repeated}
use Rattle.file_fields.proofs.Items.{GoesOn, begins, goes_on, ends, stops-at}
use Rattle.file_fields.proofs.list.read_items.Goals as goal

pub loop-at-init : goal.loop-at-init
loop-at-init g c = rw c.new-items.ensures (begins (λ at. g.T.Field.form) c.args.count c.args.text.now)

pub loop-at-preserved : goal.loop-at-preserved
loop-at-preserved g c =
    let F = g.T.Field.form in
    let at = c.loop-at._at in
    subst (λ l. GoesOn (λ k. F) c.args.count c.args.text.now (at + 1) l c.read.new.text) (sym c.in_ok-push.ensures.ok)
    (goes_on (λ k. F) c.args.count c.args.text.now at c.loop-at.items c.loop-at.text c.in_ok-read.field-0 c.read.new.text (omega (arith, c.loop-at-test.true)) c.loop-at.invariant c.in_ok-read.ensures)

pub returns-in_err-read : goal.returns-in_err-read
returns-in_err-read g c =
    let F = g.T.Field.form in
    let p = err_from_is_err_and c.from_residual.result c.from_residual.ensures.1 in
    rw (p.1, p.2) (stops-at (λ k. F) c.args.count c.args.text.now c.loop-at._at c.loop-at.items c.loop-at.text c.read.new.text c.in_err-read.field-0.0 (omega (arith, c.loop-at-test.true)) c.loop-at.invariant c.in_err-read.ensures)

pub returns : goal.returns
unfolding repeated
returns g c = ends (λ k. g.T.Field.form) c.args.count c.args.text.now c.loop-at._at c.loop-at.items c.loop-at.text (omega (arith, c.loop-at-test.false)) c.loop-at.invariant
