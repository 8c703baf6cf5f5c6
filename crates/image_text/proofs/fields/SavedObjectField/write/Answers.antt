use Rattle.std.proofs.Common.{ℕ, List, ◌++◌, ◌∙◌, ap, w32, w64}
use Rattle.std.specs.Int.{to_le_bytes}
use Rattle.c3_base.specs.declared.cell.Cell.{Cell}
use Rattle.file_fields.specs.Cells.{cell_form}
use Rattle.file_fields.specs.Forms.{number, counted}
use Rattle.image_text.specs.Texts.{object_form}
use Rattle.image_text.proofs.Texts.{put, object-cells}
use Rattle.image_text.proofs.fields.SavedObjectField.write.Goals as goal

pub write_list-requires : goal.write_list-requires
write_list-requires c = ap (λ (l : List Cell). (counted cell_form).fits l) c.as_slice.ensures ∙ object-cells c.args.self.now c.requires

pub returns : goal.returns
unfolding object_form number
returns c =
    let o = c.args.self.now in
    let old = c.args.text.now.items in
    let serial = to_le_bytes w64 o.serial in
    let place = to_le_bytes w32 o.place in
    let cells = (counted cell_form).text o.cells in
    let a = c.append.new.text.items in
    let b = c.append-2.new.text.items in
    let new = c.write_list.new.text.items in
    put old serial (place ++ cells) a new (c.in_ok-append.ensures ∙ ap (λ (l : List ℕ). old ++ l) c.to_le_bytes.ensures)
    (put a place cells b new (c.in_ok-append-2.ensures ∙ ap (λ (l : List ℕ). a ++ l) c.to_le_bytes-2.ensures)
    (c.in_ok-write_list.ensures ∙ ap (λ (l : List Cell). b ++ (counted cell_form).text l) c.as_slice.ensures))
