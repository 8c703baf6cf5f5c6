-- Calls on a file that no reading reads.
use Rattle.std.proofs.Common.{ℕ, ◌<◌, ◌≤◌, refl, sym, ◌∙◌, ap, subst, arith}
use Rattle.disk_model.specs.Disk.{View}
use Rattle.disk_model.specs.Runs.{LeavesOnly, DiffersIn, Touches, Keeps}
use Rattle.disk_model.proofs.Moments.{weaker, and_then}
use Rattle.line_store.specs.Reading.{line_of, opens_gate}
use Rattle.line_store.specs.Store.{IsSettled, ReadsAsLeft, StaysAt, Anyhow}
use Rattle.line_store.proofs.Frame.{IsUnread, reading-unread, reading-same, reading_at-off_line}

pub unread-left : (file : ℕ) (old new : View) → 5 ≤ old.files → IsSettled old → IsUnread (line_of (old.seen 2)) file → Touches file Anyhow old new → LeavesOnly old new (ReadsAsLeft old)
unread-left file old new files settled unread touches = weaker old new (DiffersIn file Anyhow old) (ReadsAsLeft old) (λ c differs. (
  differs.was,
  differs.left,
  reading-unread file c differs.was differs.others (subst (λ line. IsUnread line file) (sym (settled.line (differs.was 2) (differs.left 2 (omega (arith, files))))) unread),
)) touches.run

-- calls that change no bytes
pub keeps-left : (old new : View) → Keeps old new → LeavesOnly old new (ReadsAsLeft old)
keeps-left old new keeps = weaker old new _ (ReadsAsLeft old) (λ c left. (c, left, refl)) keeps.run

-- and then some that keep the line
pub trims-left : (line : ℕ) (old mid new : View) → Keeps old mid → Touches 2 (StaysAt line) mid new → LeavesOnly old new (ReadsAsLeft old)
trims-left line old mid new keeps touches = and_then old mid new (ReadsAsLeft old) (keeps-left old mid keeps)
    (weaker mid new (DiffersIn 2 (StaysAt line) mid) (ReadsAsLeft old) (λ c differs. (
      differs.was,
      λ f lt. keeps.left f (differs.was f) (differs.left f (subst (λ n. f < n) (sym keeps.run.files) lt)),
      reading-same c differs.was (ap opens_gate (differs.others 1 (λ is. absurd (omega (arith, is))))) (differs.changed.1 ∙ sym differs.changed.0) (reading_at-off_line c differs.was (line_of (differs.was 2)) differs.others),
    )) touches.run)
