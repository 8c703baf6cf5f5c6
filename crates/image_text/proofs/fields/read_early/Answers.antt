use Rattle.std.proofs.Common.{ℕ, ◌+◌, List, sym, subst, arith}
use Rattle.std.proofs.lemmas.Result.{err_from_is_err_and}
use Rattle.file_fields.specs.Forms.{repeated}
use Rattle.file_fields.proofs.Items.{GoesOn, goes_on, ends, stops-at}
use Rattle.image_text.specs.Texts.{early_form}
use Rattle.image_text.proofs.fields.read_early.Goals as goal

pub loop-rank-preserved : goal.loop-rank-preserved
loop-rank-preserved c =
    let rank = c.loop-rank.rank in
    subst (λ (l : List ℕ). GoesOn early_form c.args.ranks c.args.text.now (rank + 1) l c.u32.new.self) (sym c.in_ok-push.ensures.ok)
    (goes_on early_form c.args.ranks c.args.text.now rank c.loop-rank.early c.loop-rank.text c.in_ok-u32.field-0 c.u32.new.self (omega (arith, c.loop-rank-test.true)) c.loop-rank.invariant c.in_ok-u32.ensures)

pub returns-in_err-u32 : goal.returns-in_err-u32
returns-in_err-u32 c =
    let p = err_from_is_err_and c.from_residual.result c.from_residual.ensures.1 in
    rw (p.1, p.2) (stops-at early_form c.args.ranks c.args.text.now c.loop-rank.rank c.loop-rank.early c.loop-rank.text c.u32.new.self c.in_err-u32.field-0.0 (omega (arith, c.loop-rank-test.true)) c.loop-rank.invariant c.in_err-u32.ensures)

pub returns : goal.returns
unfolding repeated
returns c = ends early_form c.args.ranks c.args.text.now c.loop-rank.rank c.loop-rank.early c.loop-rank.text (omega (arith, c.loop-rank-test.false)) c.loop-rank.invariant
