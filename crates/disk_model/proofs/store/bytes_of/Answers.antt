use Rattle.std.proofs.Common.{get_or, ap, ◌∙◌, sym, arith}
use Rattle.disk_model.specs.Files.{FileState}
use Rattle.disk_model.proofs.Entries.{entry-state, no_entry}
use Rattle.disk_model.proofs.store.bytes_of.Goals as goal

pub returns-then-at-files : goal.returns-then-at-files
returns-then-at-files c = sym (ap (λ (s : FileState). s.seen) (no_entry c.args.file c.args.files.now (sym c.find-at.ensures.place ∙ c.if-at-files.true)))

pub returns : goal.returns
returns c =
    let files = c.args.files.now in
    let d = c.index-files-at.result in
    c.deref.ensures.value ∙ ap (λ n. (get_or files n d).seen.items) c.find-at.ensures.place
    ∙ ap (λ (s : FileState). s.seen) (entry-state c.args.file files d (omega (arith, c.find-at.ensures.place, c.find-at.ensures.within, c.if-at-files.false)))
