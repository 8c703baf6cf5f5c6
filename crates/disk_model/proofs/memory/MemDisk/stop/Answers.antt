use Rattle.std.proofs.Common.{◌≡◌, ℕ, List, [], ◌∷◌, ◌++◌, sym, ◌∙◌, ap, subst}
use Rattle.std.proofs.lemmas.List.{map-append}
use Rattle.disk_model.specs.declared.calls.Call.TheVariants.{Stop}
use Rattle.disk_model.specs.declared.file.MemFile.{MemFile}
use Rattle.disk_model.specs.Disk.{IsStable, Leaves}
use Rattle.disk_model.specs.Files.{Change, Stops, at_rest, left_by, view_of}
use Rattle.disk_model.specs.Memory.{Memory}
use Rattle.disk_model.specs.Stored.{change, changes, state_in}
use Rattle.disk_model.proofs.Kept.{after-stop}
use Rattle.disk_model.proofs.Replays.{stop-leaves, stop-stable}
use Rattle.disk_model.proofs.memory.MemDisk.stop.Goals as goal

pub invariant_of-self-2 : goal.invariant_of-self-2
invariant_of-self-2 c =
    let s = c.self.inside in
    let done : (f : ℕ) → state_in c.in_ok-files.files.items f ≡ at_rest (left_by c.args.choice (state_in s.files.items f)) = λ f.
    c.in_ok-files.ensures f ∙ ap (λ (l : List MemFile). at_rest (left_by c.args.choice (state_in l f))) c.deref.ensures.value in
    after-stop s.calls.items c.push.new.self.items s.files.items c.in_ok-files.files.items c.self.invariant c.args.choice c.in_ok-push.ensures.items done

pub returns-clause-left : goal.returns-clause-left
returns-clause-left c =
    let noted : changes c.push.new.self.items ≡ c.args.self.now.changes ++ Stops c.args.choice ∷ [] =
    ap changes c.in_ok-push.ensures.items ∙ map-append change c.self.inside.calls.items (Stop c.args.choice ∷ []) ∙ ap (λ (m : Memory). m.changes ++ Stops c.args.choice ∷ []) c.self.view_is in
    subst (λ (l : List Change). Leaves (view_of c.args.self.now.changes) (view_of l).seen) (sym noted) (stop-leaves c.args.self.now.changes c.args.choice)

pub returns-clause-stable : goal.returns-clause-stable
returns-clause-stable c =
    let noted : changes c.push.new.self.items ≡ c.args.self.now.changes ++ Stops c.args.choice ∷ [] =
    ap changes c.in_ok-push.ensures.items ∙ map-append change c.self.inside.calls.items (Stop c.args.choice ∷ []) ∙ ap (λ (m : Memory). m.changes ++ Stops c.args.choice ∷ []) c.self.view_is in
    subst (λ (l : List Change). (f : ℕ) → IsStable (view_of l) f) (sym noted) (stop-stable c.args.self.now.changes c.args.choice)
