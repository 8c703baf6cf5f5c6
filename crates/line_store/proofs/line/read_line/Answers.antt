use Rattle.std.proofs.Common.{◌≡◌, List, ℕ, get_or, sym, ◌∙◌, ap, arith}
use Rattle.disk_model.proofs.Moments.{keeps_then}
use Rattle.line_store.proofs.Lines.{leading-more, leading-stops}
use Rattle.line_store.proofs.line.read_line.Goals as goal

pub returns-then-branch-ne1-clause-line : goal.returns-then-branch-ne1-clause-line
returns-then-branch-ne1-clause-line g c told =
    let bytes = (g.D.Disk.view c.args.disk.now).seen 2 in
    let byte : c.in_ok-byte_at.field-0 ≡ get_or bytes c.loop-line.line 0 = c.in_ok-byte_at.ensures.byte told ∙ ap (λ n. get_or ((g.D.Disk.view c.loop-line.disk).seen 2) n 0) c.from.ensures ∙ ap (λ (l : List ℕ). get_or l c.loop-line.line 0) ((c.loop-line.invariant.keeps told).seen 2) in
    leading-stops c.loop-line.line bytes (c.loop-line.invariant.line told) (omega (arith, c.loop-line-test.true)) (λ is. c.if-branch-ne1.true (byte ∙ is))

pub loop-line-preserved : goal.loop-line-preserved
loop-line-preserved g c = record {
  keeps = λ told. keeps_then 2 _ _ _ (c.loop-line.invariant.keeps told) (c.byte_at.ensures.steps told);
  line = λ told. leading-more c.loop-line.line ((g.D.Disk.view c.args.disk.now).seen 2) (c.loop-line.invariant.line told) (sym (c.in_ok-byte_at.ensures.byte told ∙ ap (λ n. get_or ((g.D.Disk.view c.loop-line.disk).seen 2) n 0) c.from.ensures ∙ ap (λ (l : List ℕ). get_or l c.loop-line.line 0) ((c.loop-line.invariant.keeps told).seen 2)) ∙ c.if-branch-ne1.false);
  no_fault = c.in_ok-byte_at.ensures.cause.kept ∙ c.loop-line.invariant.no_fault;
}
