use Rattle.std.proofs.Common.{◌≡◌, ◌++◌, ℕ, take}
use Rattle.mpi_words.specs.declared.message.Datatype.{Datatype}
use Rattle.file_fields.specs.Forms.{text_each}
use Rattle.file_fields.specs.Messages.{item_form}
use Rattle.file_fields.proofs.message.write_items.Given as goal

abbrev pub invariant-loop-item : goal.invariant-loop-item
invariant-loop-item l = (context count : ℕ) (kind : Datatype) → l.text.items ≡ l.fn.text.items ++ text_each (item_form context kind count) 0 (take l.item-index l.items)
