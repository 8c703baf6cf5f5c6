use Rattle.std.proofs.Common.{◌≡◌, List, ℕ, ◌∙◌, subst}
use Rattle.disk_model.proofs.Moments.{keeps_none}
use Rattle.late_logs.specs.Texts.{log_form}
use Rattle.line_store.specs.Reading.{log_file}
use Rattle.line_store.proofs.Holding.{spared-none}
use Rattle.line_store.specs.Held.{IsHeld, with_log}
use Rattle.line_store.proofs.Standings.{keeps-quiet}
use Rattle.line_store.proofs.saves.save_log.Goals as goal

pub returns-in_err-text-clause-quiet : goal.returns-in_err-text-clause-quiet
returns-in_err-text-clause-quiet g c told text s held = keeps-quiet text (g.D.Disk.view c.args.disk.now) (g.D.Disk.view c.args.disk.now) held.safe (keeps_none (g.D.Disk.view c.args.disk.now) (g.met.D.Disk.lawful c.args.disk.now told))

pub returns-clause-held : goal.returns-clause-held
returns-clause-held g c told text s held lt =
    let log = c.args.log.now in
    let put : c.deref.result.now ≡ log_form.text log = c.deref.ensures.value ∙ c.in_ok-text.ensures in
    subst (λ (t : List ℕ). IsHeld text (g.D.Disk.view c.put_log.new.disk) (with_log s log.rank t)) put (c.in_ok-put_log.ensures.held told text s held lt)

pub returns-in_err-text-clause-others : goal.returns-in_err-text-clause-others
returns-in_err-text-clause-others g c told = spared-none (log_file c.args.log.now.rank c.args.log.now.line) (g.D.Disk.view c.args.disk.now)
