use Rattle.std.proofs.Common.{◌≡◌, ap, ◌∙◌}
use Rattle.rank_machine.specs.State.{frame_of}
use Rattle.rank_machine.proofs.Renumbers.{one_more, with_newest}
use Rattle.rank_machine.proofs.running.Running.number.Goals as goal

pub loop-frame-preserved : goal.loop-frame-preserved
loop-frame-preserved c =
    let l = c.loop-frame in
    let frame = c.in-Some.frame in
    let other : frame_of c.in_ok-with_first.field-0 ≡ with_newest l.left.now (frame_of frame) = c.in_ok-with_first.ensures ∙ ap (λ n. record (frame_of frame) { variables = record { first = n; count = frame.variables.count } }) c.first_among.ensures in
    record {
      parts = l.invariant.parts;
      end = l.invariant.end;
      frames = rw (c.in_ok-push.ensures.items, c.saturating_sub.ensures) (one_more l.newest.items l.self.frames.items c.pop.new.self.items frame c.in_ok-with_first.field-0 l.left.now c.in-Some.ensures.items other ∙ l.invariant.frames);
    }
