use Rattle.std.proofs.Common.{◌≡◌, ◌++◌, take}
use Rattle.file_fields.specs.Forms.{text_each}
use Rattle.image_text.specs.Texts.{early_form}
use Rattle.image_text.proofs.fields.write_early.Given as goal

abbrev pub invariant-loop-count : goal.invariant-loop-count
invariant-loop-count l = l.text.items ≡ l.fn.text.items ++ text_each early_form 0 (take l.count-index l.counts)
