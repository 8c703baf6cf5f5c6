use Rattle.std.proofs.lemmas.Result.{err_from_is_err_and}
use Rattle.late_logs.specs.Texts.{log_form}
use Rattle.line_store.specs.Reading.{log_file}
use Rattle.line_store.proofs.Loading.{same-texts, line-image, line-log, loaded-held, never-wrong}
use Rattle.line_store.proofs.loads.load_line.Goals as goal

pub returns-clause-held : goal.returns-clause-held
returns-clause-held g c told text s held count line pos =
    let old = g.D.Disk.view c.args.disk.now in
    let mid = g.D.Disk.view c.load_images.new.disk in
    let ranks = c.args.job.now.ranks in
    loaded-held text old s ranks c.args.line c.in_ok-images.images.items c.in_ok-logs.logs.items held count line pos (c.in_ok-images.ensures.read told)
    (same-texts log_form ranks (λ r. mid.seen (log_file r c.args.line)) (λ r. old.seen (log_file r c.args.line)) c.in_ok-logs.logs.items (λ r. (c.in_ok-images.ensures.keeps told).seen (log_file r c.args.line)) (c.in_ok-logs.ensures.read told))

pub returns-in_err-images-clause-well : goal.returns-in_err-images-clause-well
returns-in_err-images-clause-well g c told text s held count line pos well =
    let old = g.D.Disk.view c.args.disk.now in
    let ranks = c.args.job.now.ranks in
    let fault = c.in_err-images.field-0.0 in
    let p = err_from_is_err_and c.from_residual.result c.from_residual.ensures.1 in
    rw (p.1, p.2) (never-wrong text old s ranks c.args.line fault held count line pos well (line-image old.seen ranks c.args.line fault (c.in_err-images.ensures.wrong told)))

pub returns-in_err-logs-clause-well : goal.returns-in_err-logs-clause-well
returns-in_err-logs-clause-well g c told text s held count line pos well =
    let old = g.D.Disk.view c.args.disk.now in
    let mid = g.D.Disk.view c.load_images.new.disk in
    let ranks = c.args.job.now.ranks in
    let fault = c.in_err-logs.field-0.0 in
    let p = err_from_is_err_and c.from_residual-in_err-logs.result c.from_residual-in_err-logs.ensures.1 in
    rw (p.1, p.2) (never-wrong text old s ranks c.args.line fault held count line pos well
    (line-log old.seen mid.seen ranks c.args.line c.in_ok-images.images.items fault (c.in_ok-images.ensures.keeps told).seen (c.in_ok-images.ensures.read told) (c.in_err-logs.ensures.wrong told)))
