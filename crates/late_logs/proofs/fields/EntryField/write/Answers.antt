use Rattle.std.proofs.Common.{◌≡◌, ℕ, List, [], ◌∷◌, ◌++◌, sym, ◌∙◌, ap, subst, true, w16}
use Rattle.std.specs.Int.{to_le_bytes}
use Rattle.file_fields.specs.Forms.{number}
use Rattle.file_fields.specs.Messages.{message_form, arrival_form}
use Rattle.late_logs.specs.declared.entry.Entry.{Entry}
use Rattle.late_logs.specs.Texts.{fits_entry, text_entry, entry_form}
use Rattle.late_logs.proofs.Texts.{put, message-fits}
use Rattle.late_logs.proofs.fields.EntryField.write.Goals as goal

pub write-requires : goal.write-requires
unfolding entry_form
write-requires c = message-fits c.in-Late.source c.in-Late.message (subst (λ (e : Entry). fits_entry e ≡ true) c.in-Late.is c.requires)

pub returns-in_ok-append-in-Intra-2 : goal.returns-in_ok-append-in-Intra-2
unfolding entry_form number
returns-in_ok-append-in-Intra-2 c =
    let old = c.args.text.now.items in
    let source = to_le_bytes w16 c.in-Intra.source in
    let mid = c.append.new.text.items in
    let new = c.append-in-Intra.new.text.items in
    put old (0 ∷ []) source mid new c.in_ok-append-in-Intra.ensures (c.in_ok-append-in-Intra-2.ensures ∙ ap (λ (b : List ℕ). mid ++ b) c.to_le_bytes.ensures)
    ∙ ap (λ (e : Entry). old ++ text_entry e) (sym c.in-Intra.is)

pub returns-in_ok-write-in-Late : goal.returns-in_ok-write-in-Late
unfolding entry_form arrival_form number
returns-in_ok-write-in-Late c =
    let old = c.args.text.now.items in
    let source = to_le_bytes w16 c.in-Late.source in
    let message = message_form.text c.in-Late.message in
    let one = c.append-in-Late.new.text.items in
    let two = c.append-in-Late-2.new.text.items in
    let new = c.write.new.text.items in
    put old (1 ∷ []) (source ++ message) one new c.in_ok-append-in-Late.ensures
    (put one source message two new (c.in_ok-append-in-Late-2.ensures ∙ ap (λ (b : List ℕ). one ++ b) c.to_le_bytes-in-Late.ensures) c.in_ok-write-in-Late.ensures)
    ∙ ap (λ (e : Entry). old ++ text_entry e) (sym c.in-Late.is)
