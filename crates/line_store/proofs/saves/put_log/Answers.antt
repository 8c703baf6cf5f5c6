use Rattle.std.proofs.Common.{◌≡◌, ◌+◌, ◌*◌, List, ℕ, ap, subst, arith, ◌∙◌}
use Rattle.disk_model.specs.Disk.{View, IsStable}
use Rattle.disk_model.specs.Runs.{Touches}
use Rattle.line_store.specs.Reading.{log_file, line_of}
use Rattle.line_store.specs.Store.{Anyhow}
use Rattle.line_store.specs.Held.{Standing, with_log, IsHeld, IsQuiet}
use Rattle.line_store.proofs.Frame.{log-unread}
use Rattle.line_store.proofs.Holding.{spared-at, unread-quiet, log-held}
use Rattle.line_store.proofs.Standings.{rank-settled}
use Rattle.line_store.proofs.saves.put_log.Goals as goal

module _ (text : List ℕ) (s : Standing) (rank line : ℕ) (old new : View) (held : IsHeld text old s) (next : line ≡ line_of (old.seen 2) + 1) (f : ℕ) (same : f ≡ log_file rank line) (touches : Touches f Anyhow old new) where
  there : f ≡ log_file rank (s.line + 1)
  there = same ∙ ap (log_file rank) (next ∙ ap (λ l. l + 1) held.line)

  pub logged-quiet : IsQuiet text old new
  logged-quiet = unread-quiet text s (log_file rank (s.line + 1)) old new held (log-unread s.line rank) (subst (λ g. Touches g Anyhow old new) there touches) (omega (arith, held.files))

  pub logged-held : (log : List ℕ) → new.seen f ≡ log → IsStable new f → IsHeld text new (with_log s rank log)
  logged-held log seen stable = log-held text s rank log old new held (subst (λ g. Touches g Anyhow old new) there touches) (subst (λ g. new.seen g ≡ log) there seen) (subst (λ g. IsStable new g) there stable)

pub returns-in_err-replace-clause-quiet : goal.returns-in_err-replace-clause-quiet
returns-in_err-replace-clause-quiet g c told text s held =
    logged-quiet text s c.args.rank c.args.line (g.D.Disk.view c.args.disk.now) (g.D.Disk.view c.replace.new.disk) held (c.requires.next told)
    (8 + 5 * c.from.result + c.from-2.result) (omega (arith, c.from.ensures, c.from-2.ensures)) (c.replace.ensures.touches told)

pub returns-clause-quiet : goal.returns-clause-quiet
returns-clause-quiet g c told text s held =
    logged-quiet text s c.args.rank c.args.line (g.D.Disk.view c.args.disk.now) (g.D.Disk.view c.replace.new.disk) held (c.requires.next told)
    (8 + 5 * c.from.result + c.from-2.result) (omega (arith, c.from.ensures, c.from-2.ensures)) (c.replace.ensures.touches told)

pub returns-clause-held : goal.returns-clause-held
returns-clause-held g c told text s held lt =
    logged-held text s c.args.rank c.args.line (g.D.Disk.view c.args.disk.now) (g.D.Disk.view c.replace.new.disk) held (c.requires.next told)
    (8 + 5 * c.from.result + c.from-2.result) (omega (arith, c.from.ensures, c.from-2.ensures)) (c.replace.ensures.touches told)
    c.args.log.now (c.in_ok-replace.ensures.written told) (c.in_ok-replace.ensures.durable told)

pub returns-in_err-replace-clause-settled : goal.returns-in_err-replace-clause-settled
returns-in_err-replace-clause-settled g c told = rank-settled (8 + 5 * c.from.result + c.from-2.result) Anyhow (g.D.Disk.view c.args.disk.now) (g.D.Disk.view c.replace.new.disk) (omega arith) (c.replace.ensures.touches told)

pub returns-clause-settled : goal.returns-clause-settled
returns-clause-settled g c told = rank-settled (8 + 5 * c.from.result + c.from-2.result) Anyhow (g.D.Disk.view c.args.disk.now) (g.D.Disk.view c.replace.new.disk) (omega arith) (c.replace.ensures.touches told)

pub returns-in_err-replace-clause-others : goal.returns-in_err-replace-clause-others
returns-in_err-replace-clause-others g c told = spared-at (8 + 5 * c.from.result + c.from-2.result) (log_file c.args.rank c.args.line) Anyhow (g.D.Disk.view c.args.disk.now) (g.D.Disk.view c.replace.new.disk) (omega (arith, c.from.ensures, c.from-2.ensures)) (c.replace.ensures.touches told)

pub returns-clause-others : goal.returns-clause-others
returns-clause-others g c told = spared-at (8 + 5 * c.from.result + c.from-2.result) (log_file c.args.rank c.args.line) Anyhow (g.D.Disk.view c.args.disk.now) (g.D.Disk.view c.replace.new.disk) (omega (arith, c.from.ensures, c.from-2.ensures)) (c.replace.ensures.touches told)
