use Rattle.std.proofs.Common.{◌≡◌, ◌++◌, take}
use Rattle.file_fields.specs.Forms.{text_each}
use Rattle.file_fields.proofs.list.write_list.Given as goal

abbrev pub invariant-loop-item : goal.invariant-loop-item
invariant-loop-item g l = l.text.items ≡ l.initial.text.items ++ text_each (λ at. g.T.Field.form) 0 (take l.item-index l.items)
