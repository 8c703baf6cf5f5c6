use Rattle.std.proofs.Common.{◌≡◌, ℕ, List, ◌++◌, ◌∙◌, ap, w16}
use Rattle.std.proofs.lemmas.List.{append_assoc}
use Rattle.std.specs.Int.{to_le_bytes}
use Rattle.file_fields.specs.Forms.{number}
use Rattle.file_fields.specs.Messages.{arrival_form, message_form}
use Rattle.file_fields.proofs.message.Tuple2U16MessageField.write.Goals as goal

pub returns : goal.returns
unfolding arrival_form number
returns c =
    let old = c.args.text.now.items in
    let source = to_le_bytes w16 c.args.self.now.0 in
    let message = message_form.text c.args.self.now.1 in
    let one : c.append.new.text.items ≡ old ++ source = c.in_ok-append.ensures ∙ ap (λ (b : List ℕ). old ++ b) c.to_le_bytes.ensures in
    c.in_ok-write.ensures ∙ ap (λ (l : List ℕ). l ++ message) one ∙ append_assoc old source message
