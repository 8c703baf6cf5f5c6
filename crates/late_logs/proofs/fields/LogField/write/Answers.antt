use Rattle.std.proofs.Common.{ℕ, List, [], ◌∷◌, ◌++◌, ◌∙◌, ap, w16, w64}
use Rattle.std.specs.Prelude.{codes}
use Rattle.std.specs.Int.{to_le_bytes}
use Rattle.file_fields.specs.Forms.{exactly, number, counted}
use Rattle.late_logs.specs.declared.entry.Entry.{Entry}
use Rattle.late_logs.specs.Texts.{entry_form, log_form}
use Rattle.late_logs.proofs.Texts.{put, log-entries}
use Rattle.late_logs.proofs.fields.LogField.write.Goals as goal

pub write_list-requires : goal.write_list-requires
write_list-requires c = ap (λ (l : List Entry). (counted entry_form).fits l) c.as_slice.ensures ∙ log-entries c.args.self.now c.requires

pub returns : goal.returns
unfolding log_form exactly number
returns c =
    let l = c.args.self.now in
    let old = c.args.text.now.items in
    let magic = codes "C3LG" in
    let format : List ℕ = 1 ∷ 0 ∷ [] in
    let ranks = to_le_bytes w16 l.ranks in
    let rank = to_le_bytes w16 l.rank in
    let line = to_le_bytes w16 l.line in
    let stop = to_le_bytes w64 l.stop in
    let entries = (counted entry_form).text l.entries in
    let n1 = c.append.new.text.items in
    let n2 = c.append-2.new.text.items in
    let n3 = c.append-3.new.text.items in
    let n4 = c.append-4.new.text.items in
    let n5 = c.append-5.new.text.items in
    let n6 = c.append-6.new.text.items in
    let new = c.write_list.new.text.items in
    put old magic (format ++ (ranks ++ (rank ++ (line ++ (stop ++ entries))))) n1 new c.in_ok-append.ensures
    (put n1 format (ranks ++ (rank ++ (line ++ (stop ++ entries)))) n2 new c.in_ok-append-2.ensures
    (put n2 ranks (rank ++ (line ++ (stop ++ entries))) n3 new (c.in_ok-append-3.ensures ∙ ap (λ (b : List ℕ). n2 ++ b) c.to_le_bytes.ensures)
    (put n3 rank (line ++ (stop ++ entries)) n4 new (c.in_ok-append-4.ensures ∙ ap (λ (b : List ℕ). n3 ++ b) c.to_le_bytes-2.ensures)
    (put n4 line (stop ++ entries) n5 new (c.in_ok-append-5.ensures ∙ ap (λ (b : List ℕ). n4 ++ b) c.to_le_bytes-3.ensures)
    (put n5 stop entries n6 new (c.in_ok-append-6.ensures ∙ ap (λ (b : List ℕ). n5 ++ b) c.to_le_bytes-4.ensures)
    (c.in_ok-write_list.ensures ∙ ap (λ (x : List Entry). n6 ++ (counted entry_form).text x) c.as_slice.ensures))))))
