use Rattle.std.proofs.Common.{◌≡◌, ◌∙◌, sym, ap, false, ◌&&◌, drop}
use Rattle.std.proofs.lemmas.List.{take_rest}
use Rattle.c3_top.specs.Input.{is_schedule_line, line_of}
use Rattle.c3_top.proofs.InputParts.{split_next}
use Rattle.c3_top.proofs.input.split.Goals.{else-is_fresh-via-then-is_fresh+else-is_before_schedule, else-is_fresh-via-else-is_fresh}
use Rattle.c3_top.proofs.input.split.Goals as goal

pub loop-at-preserved : goal.loop-at-preserved
loop-at-preserved c =
    let text = c.args.input.now in
    let at = c.loop-at.at in
    let none : (c.loop-at.is_fresh && is_schedule_line (line_of (drop at text))) ≡ false = elim c.else-is_fresh.branch [
      | else-is_fresh-via-then-is_fresh+else-is_before_schedule w ↦
          ap (λ t. t && is_schedule_line (line_of (drop at text))) w.if-is_fresh.true ∙ ap (λ l. is_schedule_line (line_of l)) (sym (take_rest text at)) ∙ sym w.is_before_schedule.ensures ∙ w.if-is_before_schedule.false
      | else-is_fresh-via-else-is_fresh w ↦ ap (λ t. t && is_schedule_line (line_of (drop at text))) w.if-is_fresh.false
    ] in
    c.loop-at.invariant ∙ split_next text at c.loop-at.is_fresh c.loop-at-test.true none
