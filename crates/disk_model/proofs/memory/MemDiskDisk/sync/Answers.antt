use Rattle.std.proofs.Common.{◌≡◌, List, [], ◌∷◌, ◌++◌, sym, ◌∙◌, ap, subst}
use Rattle.disk_model.specs.Disk.{Steps, Same, IsStable}
use Rattle.disk_model.specs.Files.{Change, Syncs, view_of}
use Rattle.disk_model.specs.Memory.{Memory}
use Rattle.disk_model.proofs.Kept.{from_ok}
use Rattle.disk_model.proofs.Replays.{sync-steps, sync-stable}
use Rattle.disk_model.proofs.memory.MemDiskDisk.sync.Goals as goal

pub returns-clause-durable : goal.returns-clause-durable
returns-clause-durable c =
    let old = c.args.self.now.changes in
    let now : c.add.new.self.changes ≡ old ++ Syncs c.args.file ∷ [] =
    ap (λ (m : Memory). m.changes) (from_ok c.add.result _ (sym c.is_err.ensures.value ∙ c.if-is_err.false) c.add.ensures.ok)
    ∙ ap (λ (m : Memory). m.changes ++ Syncs c.args.file ∷ []) c.next_fails-fails.ensures.counted in
    subst (λ (l : List Change). IsStable (view_of l) c.args.file) (sym now) (sync-stable old c.args.file)

pub returns-clause-steps : goal.returns-clause-steps
returns-clause-steps c =
    let old = c.args.self.now.changes in
    let now : c.add.new.self.changes ≡ old ++ Syncs c.args.file ∷ [] =
    ap (λ (m : Memory). m.changes) (from_ok c.add.result _ (sym c.is_err.ensures.value ∙ c.if-is_err.false) c.add.ensures.ok)
    ∙ ap (λ (m : Memory). m.changes ++ Syncs c.args.file ∷ []) c.next_fails-fails.ensures.counted in
    subst (λ (l : List Change). Steps c.args.file Same (view_of old) (view_of l)) (sym now) (sync-steps old c.args.file)
