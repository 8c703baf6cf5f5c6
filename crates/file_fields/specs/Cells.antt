-- The text of a cell.
use Rattle.std.specs.Prelude.{◌-◌, ◌^◌, negsuc, pos}
use Rattle.std.specs.Int.{w64}
use Rattle.c3_base.specs.declared.cell.Cell.{Cell}
use Rattle.file_fields.specs.Forms.{Form, number, signed, followed, converted}

-- word and serial
unfoldable pub cell_form : Form Cell
cell_form = converted
    (λ p. record { word = p.first; serial = p.second })
    (λ c. record { first = c.word; second = c.serial })
    (followed (signed (negsuc (2 ^ 63 - 1)) (pos (2 ^ 63 - 1))) (λ word. number w64 0 (2 ^ 64 - 1)))
