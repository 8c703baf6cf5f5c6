use Rattle.std.proofs.Common.{◌≡◌, ◌<◌, length, get_or, set, ◌==◌, if◌then◌else◌, sym, ◌∙◌, ap, subst, arith}
use Rattle.disk_model.specs.declared.file.MemFile.{MemFile}
use Rattle.disk_model.specs.Files.{FileState, Fits, on_file}
use Rattle.disk_model.specs.Stored.{change, state, state_in, place_of}
use Rattle.disk_model.proofs.Entries.{entry-state, entry-number, set-state, here-only}
use Rattle.disk_model.proofs.store.add.Goals as goal

pub after-requires : goal.after-requires
after-requires c =
    let files = c.room.new.files.items in
    let file = c.args.file in
    let d = c.index.result.now in
    let place = c.in_ok-at.ensures.place in
    let within : place_of file files < length files = omega (arith, place, c.in_ok-at.ensures.within) in
    let same : state d ≡ state_in c.args.files.now.items file = ap state c.index.ensures ∙ ap (λ n. state (get_or files n d)) place ∙ entry-state file files d within ∙ c.room.ensures.same file in
    subst (λ (s : FileState). Fits (change c.args.call) s) (sym same) c.requires

pub returns-clause-files : goal.returns-clause-files
returns-clause-files c f =
    let files = c.room.new.files.items in
    let file = c.args.file in
    let d = c.index.result.now in
    let next = c.in_ok-next.next in
    let place = c.in_ok-at.ensures.place in
    let within : place_of file files < length files = omega (arith, place, c.in_ok-at.ensures.within) in
    let entry : d ≡ get_or files (place_of file files) d = c.index.ensures ∙ ap (λ n. get_or files n d) place in
    let number : next.number ≡ file = c.in_ok-next.ensures.number ∙ ap (λ (m : MemFile). m.number) entry ∙ entry-number file files d within in
    let done : state next ≡ on_file (change c.args.call) (state_in files file) = c.in_ok-next.ensures.state ∙ ap (λ (m : MemFile). on_file (change c.args.call) (state m)) entry ∙ ap (λ (s : FileState). on_file (change c.args.call) s) (entry-state file files d within) in
    ap (λ n. state_in (set files n next) f) place ∙ set-state file next files number within f
    ∙ here-only f file (state next) (λ g. state_in files g) (λ s. on_file (change c.args.call) s) done
    ∙ ap (λ (s : FileState). if f == file then on_file (change c.args.call) s else s) (c.room.ensures.same f)
