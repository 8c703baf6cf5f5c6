use Rattle.std.proofs.Common.{List, ℕ, [], ◌∷◌, ◌++◌, sym, ◌∙◌, ap, w32}
use Rattle.std.specs.Int.{to_le_bytes}
use Rattle.file_fields.specs.Forms.{number}
use Rattle.late_logs.proofs.Texts.{put}
use Rattle.mpi_words.specs.declared.operation.End.{End}
use Rattle.line_store.specs.Texts.{end_form, text_end}
use Rattle.line_store.proofs.codes.write_end.Goals as goal

pub returns-in_ok-append-in-Fault-2 : goal.returns-in_ok-append-in-Fault-2
unfolding end_form number
returns-in_ok-append-in-Fault-2 c =
    let old = c.args.text.now.items in
    let code = to_le_bytes w32 c.in-Fault.code in
    let mid = c.append-in-Fault.new.text.items in
    let new = c.append-in-Fault-2.new.text.items in
    put old (1 ∷ []) code mid new c.in_ok-append-in-Fault.ensures (c.in_ok-append-in-Fault-2.ensures ∙ ap (λ (b : List ℕ). mid ++ b) (c.to_le_bytes-in-Fault.ensures ∙ ap (to_le_bytes w32) c.from.ensures))
    ∙ ap (λ (e : End). old ++ text_end e) (sym c.in-Fault.is)
