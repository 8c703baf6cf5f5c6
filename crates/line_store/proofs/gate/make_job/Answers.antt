use Rattle.std.proofs.Common.{List, ℕ, ◌∙◌, subst}
use Rattle.line_store.specs.Store.{IsNew}
use Rattle.line_store.specs.Texts.{job_form}
use Rattle.line_store.proofs.Making.{new-safe}
use Rattle.line_store.proofs.gate.make_job.Goals as goal

pub returns-clause-safe : goal.returns-clause-safe
returns-clause-safe g c told =
    let v = g.D.Disk.view c.make_files.new.disk in
    let ranks = c.args.job.now.ranks in
    new-safe ranks (job_form.text c.args.job.now) v (subst (λ (t : List ℕ). IsNew ranks t v) (c.deref.ensures.value ∙ c.in_ok-text.ensures) (c.in_ok-make_files.ensures.made told))
