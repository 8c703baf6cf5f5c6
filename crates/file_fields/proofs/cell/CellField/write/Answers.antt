use Rattle.std.proofs.Common.{◌≡◌, ℕ, ℤ, List, ◌++◌, ◌∙◌, ap, w64, rules}
use Rattle.std.proofs.lemmas.Int.{to_z-of_z}
use mir.Val.{SFits}
use Rattle.std.proofs.lemmas.List.{append_assoc}
use Rattle.std.specs.Int.{to_le_bytes, cast_unsigned}
use Rattle.file_fields.specs.Cells.{cell_form}
use Rattle.file_fields.specs.Forms.{number, signed}
use Rattle.file_fields.proofs.cell.CellField.write.Goals as goal

pub returns : goal.returns
unfolding cell_form number signed
returns c =
    let old = c.args.text.now.items in
    let fits : SFits w64 c.args.self.now.word = search rules in
    let word = to_le_bytes w64 (cast_unsigned w64 c.args.self.now.word) in
    let serial = to_le_bytes w64 c.args.self.now.serial in
    let one : c.append.new.text.items ≡ old ++ word = c.in_ok-append.ensures ∙ ap (λ (b : List ℕ). old ++ b) (c.to_le_bytes.ensures ∙ ap (λ (z : ℤ). to_le_bytes w64 (cast_unsigned w64 z)) (to_z-of_z w64 c.args.self.now.word fits)) in
    c.in_ok-append-2.ensures ∙ ap (λ (b : List ℕ). c.append.new.text.items ++ b) c.to_le_bytes-2.ensures ∙ ap (λ (l : List ℕ). l ++ serial) one ∙ append_assoc old word serial
