use Rattle.std.proofs.Common.{ℕ, List, [], ◌∷◌, ◌++◌, ◌∙◌, ap, w16, w64}
use Rattle.std.specs.Prelude.{codes}
use Rattle.std.specs.Int.{to_le_bytes}
use Rattle.mpi_words.specs.declared.message.Message.{Message}
use Rattle.file_fields.specs.Forms.{exactly, number, counted, repeated, text_each}
use Rattle.file_fields.specs.Messages.{arrival_form}
use Rattle.image_text.specs.Texts.{state_form, early_form, image_form}
use Rattle.image_text.proofs.Texts.{put, image-parts}
use Rattle.image_text.proofs.fields.ImageField.write.Goals as goal

pub write_state-requires : goal.write_state-requires
write_state-requires c = (image-parts c.args.self.now c.requires).state

pub write_list-requires : goal.write_list-requires
write_list-requires c = ap (λ (l : List (ℕ × Message)). (counted arrival_form).fits l) c.as_slice.ensures ∙ (image-parts c.args.self.now c.requires).mailbox

pub returns : goal.returns
unfolding image_form exactly number repeated
returns c =
    let i = c.args.self.now in
    let old = c.args.text.now.items in
    let magic = codes "C3IM" in
    let format : List ℕ = 1 ∷ 0 ∷ [] in
    let ranks = to_le_bytes w16 i.ranks in
    let rank = to_le_bytes w16 i.rank in
    let line = to_le_bytes w16 i.line in
    let ops = to_le_bytes w64 i.ops in
    let state = (state_form i.line).text i.state in
    let mailbox = (counted arrival_form).text i.mailbox in
    let early = text_each early_form 0 i.early in
    let n1 = c.append.new.text.items in
    let n2 = c.append-2.new.text.items in
    let n3 = c.append-3.new.text.items in
    let n4 = c.append-4.new.text.items in
    let n5 = c.append-5.new.text.items in
    let n6 = c.append-6.new.text.items in
    let n7 = c.write_state.new.text.items in
    let n8 = c.write_list.new.text.items in
    let new = c.write_early.new.text.items in
    put old magic (format ++ (ranks ++ (rank ++ (line ++ (ops ++ (state ++ (mailbox ++ early))))))) n1 new c.in_ok-append.ensures
    (put n1 format (ranks ++ (rank ++ (line ++ (ops ++ (state ++ (mailbox ++ early)))))) n2 new c.in_ok-append-2.ensures
    (put n2 ranks (rank ++ (line ++ (ops ++ (state ++ (mailbox ++ early))))) n3 new (c.in_ok-append-3.ensures ∙ ap (λ (l : List ℕ). n2 ++ l) c.to_le_bytes.ensures)
    (put n3 rank (line ++ (ops ++ (state ++ (mailbox ++ early)))) n4 new (c.in_ok-append-4.ensures ∙ ap (λ (l : List ℕ). n3 ++ l) c.to_le_bytes-2.ensures)
    (put n4 line (ops ++ (state ++ (mailbox ++ early))) n5 new (c.in_ok-append-5.ensures ∙ ap (λ (l : List ℕ). n4 ++ l) c.to_le_bytes-3.ensures)
    (put n5 ops (state ++ (mailbox ++ early)) n6 new (c.in_ok-append-6.ensures ∙ ap (λ (l : List ℕ). n5 ++ l) c.to_le_bytes-4.ensures)
    (put n6 state (mailbox ++ early) n7 new c.in_ok-write_state.ensures
    (put n7 mailbox early n8 new (c.in_ok-write_list.ensures ∙ ap (λ (l : List (ℕ × Message)). n7 ++ (counted arrival_form).text l) c.as_slice.ensures)
    (c.in_ok-write_early.ensures ∙ ap (λ (l : List ℕ). n8 ++ text_each early_form 0 l) c.as_slice-2.ensures))))))))
