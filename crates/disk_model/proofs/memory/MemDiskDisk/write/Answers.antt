use Rattle.std.proofs.Common.{◌≡◌, Bool, true, not, List, [], ◌∷◌, ◌++◌, length, sym, ◌∙◌, ap, subst, arith}
use Rattle.std.proofs.lemmas.Bool.{not_from_false}
use Rattle.disk_model.specs.Disk.{Steps, Torn, Holds}
use Rattle.disk_model.specs.Files.{Change, Writes, files_after, view_of}
use Rattle.disk_model.specs.Memory.{Memory}
use Rattle.disk_model.proofs.Kept.{from_ok}
use Rattle.disk_model.proofs.Replays.{write-steps, write-done}
use Rattle.disk_model.proofs.memory.MemDiskDisk.write.Goals as goal

pub add_write-requires : goal.add_write-requires
add_write-requires c = omega (arith, c.requires, ap (λ (m : Memory). length (files_after m.changes c.args.file).seen) c.next_fails-done.ensures.counted)

pub returns-then-not-done-clause-steps : goal.returns-then-not-done-clause-steps
returns-then-not-done-clause-steps c =
    let old = c.args.self.now.changes in
    let write = Writes c.args.file c.args.at c.args.bytes.now (not c.next_fails-done.result) in
    let now : c.fail.new.self.changes ≡ old ++ write ∷ [] =
    ap (λ (m : Memory). m.changes) c.fail.ensures.counted ∙ ap (λ (m : Memory). m.changes) (from_ok c.add_write.result _ (sym c.is_err.ensures.value ∙ c.if-is_err.false) c.add_write.ensures.ok)
    ∙ ap (λ (m : Memory). m.changes ++ write ∷ []) c.next_fails-done.ensures.counted in
    subst (λ (l : List Change). Steps c.args.file (Torn c.args.at (length c.args.bytes.now)) (view_of old) (view_of l)) (sym now) (write-steps old c.args.file c.args.at c.args.bytes.now (not c.next_fails-done.result) c.requires)

pub returns-clause-written : goal.returns-clause-written
returns-clause-written c =
    let old = c.args.self.now.changes in
    let now : c.add_write.new.self.changes ≡ old ++ Writes c.args.file c.args.at c.args.bytes.now true ∷ [] =
    ap (λ (m : Memory). m.changes) (from_ok c.add_write.result _ (sym c.is_err.ensures.value ∙ c.if-is_err.false) c.add_write.ensures.ok)
    ∙ ap (λ (m : Memory). m.changes ++ Writes c.args.file c.args.at c.args.bytes.now (not c.next_fails-done.result) ∷ []) c.next_fails-done.ensures.counted
    ∙ ap (λ (t : Bool). old ++ Writes c.args.file c.args.at c.args.bytes.now t ∷ []) (not_from_false c.next_fails-done.result c.if-not-done.false) in
    subst (λ (l : List Change). Holds (files_after old c.args.file).seen c.args.at c.args.bytes.now (files_after l c.args.file).seen) (sym now) (write-done old c.args.file c.args.at c.args.bytes.now)

pub returns-clause-steps : goal.returns-clause-steps
returns-clause-steps c =
    let old = c.args.self.now.changes in
    let write = Writes c.args.file c.args.at c.args.bytes.now (not c.next_fails-done.result) in
    let now : c.add_write.new.self.changes ≡ old ++ write ∷ [] =
    ap (λ (m : Memory). m.changes) (from_ok c.add_write.result _ (sym c.is_err.ensures.value ∙ c.if-is_err.false) c.add_write.ensures.ok)
    ∙ ap (λ (m : Memory). m.changes ++ write ∷ []) c.next_fails-done.ensures.counted in
    subst (λ (l : List Change). Steps c.args.file (Torn c.args.at (length c.args.bytes.now)) (view_of old) (view_of l)) (sym now) (write-steps old c.args.file c.args.at c.args.bytes.now (not c.next_fails-done.result) c.requires)
