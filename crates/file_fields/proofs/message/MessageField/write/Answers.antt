use Rattle.std.proofs.Common.{◌≡◌, ℕ, ◌%◌, ℤ, List, [], ◌∷◌, ◌++◌, length, ◌∙◌, ap, arith, rules, Fits, w8, w32, w64}
use Rattle.std.proofs.lemmas.Int.{to_z-of_z}
use mir.Val.{SFits}
use Rattle.std.specs.Int.{to_le_bytes, cast_unsigned}
use Rattle.file_fields.specs.Forms.{number, signed, repeated, text_each}
use Rattle.file_fields.specs.Messages.{code_of, kind_form, item_form, message_form}
use Rattle.file_fields.proofs.Messages.{message-count, behind, kind-byte}
use Rattle.file_fields.proofs.message.MessageField.write.Goals as goal

pub overflow_cast-items : goal.overflow_cast-items
overflow_cast-items c = record { fits = omega (arith, message-count c.args.self.now c.requires, ap length c.as_slice-items.ensures) }

pub returns : goal.returns
unfolding message_form kind_form number signed repeated
returns c =
    let m = c.args.self.now in
    let old = c.args.text.now.items in
    let F = item_form m.context m.kind (length m.items) in
    let context = to_le_bytes w8 m.context in
    let kind = to_le_bytes w8 (code_of m.kind) in
    let tag = to_le_bytes w64 (cast_unsigned w64 m.tag) in
    let count = to_le_bytes w32 (length m.items) in
    let items = text_each F 0 m.items in
    let small : Fits w8 m.context = search rules in
    let byte : m.context ≡ m.context % 256 = omega (arith, small.fits) in
    let fits : SFits w64 m.tag = search rules in
    let one : c.append.new.text.items ≡ old ++ context = c.in_ok-append.ensures ∙ ap (λ (b : List ℕ). old ++ b) c.to_le_bytes.ensures ∙ ap (λ (n : ℕ). old ++ n ∷ []) byte in
    let two : c.append-2.new.text.items ≡ (old ++ context) ++ kind =
    c.in_ok-append-2.ensures ∙ ap (λ (b : List ℕ). c.append.new.text.items ++ b) (c.to_le_bytes-2.ensures ∙ ap (λ (n : ℕ). n ∷ []) (c.code_of.ensures ∙ kind-byte m.kind)) ∙ ap (λ (l : List ℕ). l ++ kind) one in
    let three : c.append-3.new.text.items ≡ ((old ++ context) ++ kind) ++ tag =
    c.in_ok-append-3.ensures ∙ ap (λ (b : List ℕ). c.append-2.new.text.items ++ b) (c.to_le_bytes-3.ensures ∙ ap (λ (z : ℤ). to_le_bytes w64 (cast_unsigned w64 z)) (to_z-of_z w64 m.tag fits)) ∙ ap (λ (l : List ℕ). l ++ tag) two in
    let four : c.append-4.new.text.items ≡ (((old ++ context) ++ kind) ++ tag) ++ count =
    c.in_ok-append-4.ensures ∙ ap (λ (b : List ℕ). c.append-3.new.text.items ++ b) (c.to_le_bytes-4.ensures ∙ ap (λ (l : List ℤ). to_le_bytes w32 (length l)) c.as_slice-items.ensures) ∙ ap (λ (l : List ℕ). l ++ count) three in
    let five : c.write_items.new.text.items ≡ ((((old ++ context) ++ kind) ++ tag) ++ count) ++ items =
    c.in_ok-write_items.ensures m.context (length m.items) m.kind ∙ ap (λ (l : List ℤ). c.append-4.new.text.items ++ text_each F 0 l) c.as_slice-items.ensures ∙ ap (λ (l : List ℕ). l ++ items) four in
    five ∙ behind old context kind tag count items
