use Rattle.std.proofs.Common.{◌≡◌, ◌++◌, take}
use Rattle.file_fields.specs.Forms.{text_each}
use Rattle.line_store.specs.Texts.{end_form}
use Rattle.line_store.proofs.codes.write_ends.Given as goal

abbrev pub invariant-loop-end : goal.invariant-loop-end
invariant-loop-end l = l.text.items ≡ l.initial.text.items ++ text_each (λ at. end_form) 0 (take l.end-index l.ends)
