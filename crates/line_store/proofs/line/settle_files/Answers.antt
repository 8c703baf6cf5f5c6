use Rattle.std.proofs.Common.{refl, sym, ◌∙◌}
use Rattle.disk_model.proofs.Moments.{keeps_none, keeps_then, keeps_all}
use Rattle.line_store.proofs.Saving.{keeps-left, trims-left}
use Rattle.line_store.proofs.line.settle_files.Goals as goal

pub returns-in_err-sync-clause-any_moment : goal.returns-in_err-sync-clause-any_moment
returns-in_err-sync-clause-any_moment g c told =
    let is = g.met.D.Disk.lawful c.args.disk.now told in
    let first = keeps_then 4 _ _ _ (keeps_none (g.D.Disk.view c.args.disk.now) is) (c.sync.ensures.steps told) in
    keeps-left _ _ first

pub returns-in_err-sync-2-clause-any_moment : goal.returns-in_err-sync-2-clause-any_moment
returns-in_err-sync-2-clause-any_moment g c told =
    let is = g.met.D.Disk.lawful c.args.disk.now told in
    let first = keeps_then 4 _ _ _ (keeps_none (g.D.Disk.view c.args.disk.now) is) (c.sync.ensures.steps told) in
    let second = keeps_then 2 _ _ _ first (c.sync-2.ensures.steps told) in
    keeps-left _ _ second

pub returns-in_err-line-clause-any_moment : goal.returns-in_err-line-clause-any_moment
returns-in_err-line-clause-any_moment g c told =
    let is = g.met.D.Disk.lawful c.args.disk.now told in
    let first = keeps_then 4 _ _ _ (keeps_none (g.D.Disk.view c.args.disk.now) is) (c.sync.ensures.steps told) in
    let second = keeps_then 2 _ _ _ first (c.sync-2.ensures.steps told) in
    keeps-left _ _ (keeps_all _ _ _ second (c.read_line.ensures.keeps told))

pub returns-in_err-trim-clause-any_moment : goal.returns-in_err-trim-clause-any_moment
returns-in_err-trim-clause-any_moment g c told =
    let is = g.met.D.Disk.lawful c.args.disk.now told in
    let first = keeps_then 4 _ _ _ (keeps_none (g.D.Disk.view c.args.disk.now) is) (c.sync.ensures.steps told) in
    let second = keeps_then 2 _ _ _ first (c.sync-2.ensures.steps told) in
    trims-left _ _ _ _ (keeps_all _ _ _ second (c.read_line.ensures.keeps told)) (c.trim.ensures.touches told)

pub returns-clause-any_moment : goal.returns-clause-any_moment
returns-clause-any_moment g c told =
    let is = g.met.D.Disk.lawful c.args.disk.now told in
    let first = keeps_then 4 _ _ _ (keeps_none (g.D.Disk.view c.args.disk.now) is) (c.sync.ensures.steps told) in
    let second = keeps_then 2 _ _ _ first (c.sync-2.ensures.steps told) in
    trims-left _ _ _ _ (keeps_all _ _ _ second (c.read_line.ensures.keeps told)) (c.trim.ensures.touches told)

pub returns-in_err-sync-clause-lines : goal.returns-in_err-sync-clause-lines
returns-in_err-sync-clause-lines g c told b left =
    let is = g.met.D.Disk.lawful c.args.disk.now told in
    let first = keeps_then 4 _ _ _ (keeps_none (g.D.Disk.view c.args.disk.now) is) (c.sync.ensures.steps told) in
    (b, first.left 2 b left, refl)

pub returns-in_err-sync-2-clause-lines : goal.returns-in_err-sync-2-clause-lines
returns-in_err-sync-2-clause-lines g c told b left =
    let is = g.met.D.Disk.lawful c.args.disk.now told in
    let first = keeps_then 4 _ _ _ (keeps_none (g.D.Disk.view c.args.disk.now) is) (c.sync.ensures.steps told) in
    let second = keeps_then 2 _ _ _ first (c.sync-2.ensures.steps told) in
    (b, second.left 2 b left, refl)

pub returns-in_err-line-clause-lines : goal.returns-in_err-line-clause-lines
returns-in_err-line-clause-lines g c told b left =
    let is = g.met.D.Disk.lawful c.args.disk.now told in
    let first = keeps_then 4 _ _ _ (keeps_none (g.D.Disk.view c.args.disk.now) is) (c.sync.ensures.steps told) in
    let second = keeps_then 2 _ _ _ first (c.sync-2.ensures.steps told) in
    let third = keeps_all _ _ _ second (c.read_line.ensures.keeps told) in
    (b, third.left 2 b left, refl)

pub returns-in_err-trim-clause-lines : goal.returns-in_err-trim-clause-lines
returns-in_err-trim-clause-lines g c told b left =
    let is = g.met.D.Disk.lawful c.args.disk.now told in
    let first = keeps_then 4 _ _ _ (keeps_none (g.D.Disk.view c.args.disk.now) is) (c.sync.ensures.steps told) in
    let second = keeps_then 2 _ _ _ first (c.sync-2.ensures.steps told) in
    let third = keeps_all _ _ _ second (c.read_line.ensures.keeps told) in
    let from = (c.trim.ensures.touches told).left b left in
    (from.0, third.left 2 from.0 from.1, from.2.0 ∙ sym from.2.1)

pub returns-clause-lines : goal.returns-clause-lines
returns-clause-lines g c told b left =
    let is = g.met.D.Disk.lawful c.args.disk.now told in
    let first = keeps_then 4 _ _ _ (keeps_none (g.D.Disk.view c.args.disk.now) is) (c.sync.ensures.steps told) in
    let second = keeps_then 2 _ _ _ first (c.sync-2.ensures.steps told) in
    let third = keeps_all _ _ _ second (c.read_line.ensures.keeps told) in
    let from = (c.trim.ensures.touches told).left b left in
    (from.0, third.left 2 from.0 from.1, from.2.0 ∙ sym from.2.1)
