use Rattle.std.proofs.Common.{◌≡◌}
use Rattle.line_store.specs.Store.{StaysTo}
use Rattle.disk_model.specs.Disk.{Cut}
use Rattle.disk_model.proofs.Moments.{touches_none, touches_then}
use Rattle.line_store.proofs.Holding.{stays-none, stays-same, stays-cut}
use Rattle.line_store.proofs.files.shorten.Goals as goal

pub returns-in_err-cut-clause-touches : goal.returns-in_err-cut-clause-touches
returns-in_err-cut-clause-touches g c told =
    let is = g.met.D.Disk.lawful c.args.disk.now told in
    let start = touches_none c.args.file (StaysTo c.args.size) _ is c.requires.file (λ a left. stays-none c.args.size a) in
    touches_then c.args.file (StaysTo c.args.size) (Cut c.args.size) _ _ _ is c.requires.file start (c.cut.ensures.steps told) (stays-cut c.args.size)

pub returns-in_err-sync-clause-touches : goal.returns-in_err-sync-clause-touches
returns-in_err-sync-clause-touches g c told =
    let is = g.met.D.Disk.lawful c.args.disk.now told in
    let start = touches_none c.args.file (StaysTo c.args.size) _ is c.requires.file (λ a left. stays-none c.args.size a) in
    let cut = touches_then c.args.file (StaysTo c.args.size) (Cut c.args.size) _ _ _ is c.requires.file start (c.cut.ensures.steps told) (stays-cut c.args.size) in
    touches_then c.args.file (StaysTo c.args.size) (λ a b. b ≡ a) _ _ _ is c.requires.file cut (c.sync.ensures.steps told) (stays-same c.args.size)

pub returns-clause-touches : goal.returns-clause-touches
returns-clause-touches g c told =
    let is = g.met.D.Disk.lawful c.args.disk.now told in
    let start = touches_none c.args.file (StaysTo c.args.size) _ is c.requires.file (λ a left. stays-none c.args.size a) in
    let cut = touches_then c.args.file (StaysTo c.args.size) (Cut c.args.size) _ _ _ is c.requires.file start (c.cut.ensures.steps told) (stays-cut c.args.size) in
    touches_then c.args.file (StaysTo c.args.size) (λ a b. b ≡ a) _ _ _ is c.requires.file cut (c.sync.ensures.steps told) (stays-same c.args.size)
