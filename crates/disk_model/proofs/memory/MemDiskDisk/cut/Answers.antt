use Rattle.std.proofs.Common.{◌≡◌, Bool, true, not, List, [], ◌∷◌, ◌++◌, length, sym, ◌∙◌, ap, subst, arith}
use Rattle.std.proofs.lemmas.Bool.{not_from_false}
use Rattle.disk_model.specs.Disk.{Steps, Cut}
use Rattle.disk_model.specs.Files.{Change, Cuts, files_after, view_of}
use Rattle.disk_model.specs.Memory.{Memory}
use Rattle.disk_model.proofs.Kept.{from_ok}
use Rattle.disk_model.proofs.Replays.{cut-steps, cut-done}
use Rattle.disk_model.proofs.memory.MemDiskDisk.cut.Goals as goal

pub add-requires-clause-fits : goal.add-requires-clause-fits
add-requires-clause-fits c = omega (arith, c.requires, ap (λ (m : Memory). length (files_after m.changes c.args.file).seen) c.next_fails-done.ensures.counted)

pub returns-then-not-done-clause-steps : goal.returns-then-not-done-clause-steps
returns-then-not-done-clause-steps c =
    let old = c.args.self.now.changes in
    let cut = Cuts c.args.file c.args.size (not c.next_fails-done.result) in
    let now : c.fail.new.self.changes ≡ old ++ cut ∷ [] =
    ap (λ (m : Memory). m.changes) c.fail.ensures.counted ∙ ap (λ (m : Memory). m.changes) (from_ok c.add.result _ (sym c.is_err.ensures.value ∙ c.if-is_err.false) c.add.ensures.ok)
    ∙ ap (λ (m : Memory). m.changes ++ cut ∷ []) c.next_fails-done.ensures.counted in
    subst (λ (l : List Change). Steps c.args.file (Cut c.args.size) (view_of old) (view_of l)) (sym now) (cut-steps old c.args.file c.args.size (not c.next_fails-done.result) c.requires)

pub returns-clause-cut : goal.returns-clause-cut
returns-clause-cut c =
    let old = c.args.self.now.changes in
    let now : c.add.new.self.changes ≡ old ++ Cuts c.args.file c.args.size true ∷ [] =
    ap (λ (m : Memory). m.changes) (from_ok c.add.result _ (sym c.is_err.ensures.value ∙ c.if-is_err.false) c.add.ensures.ok)
    ∙ ap (λ (m : Memory). m.changes ++ Cuts c.args.file c.args.size (not c.next_fails-done.result) ∷ []) c.next_fails-done.ensures.counted
    ∙ ap (λ (t : Bool). old ++ Cuts c.args.file c.args.size t ∷ []) (not_from_false c.next_fails-done.result c.if-not-done.false) in
    ap (λ (l : List Change). (files_after l c.args.file).seen) now ∙ cut-done old c.args.file c.args.size

pub returns-clause-steps : goal.returns-clause-steps
returns-clause-steps c =
    let old = c.args.self.now.changes in
    let cut = Cuts c.args.file c.args.size (not c.next_fails-done.result) in
    let now : c.add.new.self.changes ≡ old ++ cut ∷ [] =
    ap (λ (m : Memory). m.changes) (from_ok c.add.result _ (sym c.is_err.ensures.value ∙ c.if-is_err.false) c.add.ensures.ok)
    ∙ ap (λ (m : Memory). m.changes ++ cut ∷ []) c.next_fails-done.ensures.counted in
    subst (λ (l : List Change). Steps c.args.file (Cut c.args.size) (view_of old) (view_of l)) (sym now) (cut-steps old c.args.file c.args.size (not c.next_fails-done.result) c.requires)
