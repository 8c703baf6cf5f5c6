use Rattle.line_store.specs.Texts.{end_form}
use Rattle.file_fields.proofs.Items.{GoesOn}
use Rattle.line_store.proofs.codes.read_each.Given as goal

abbrev pub invariant-loop-at : goal.invariant-loop-at
invariant-loop-at l = GoesOn (λ at. end_form) l.ranks l.fn.text l._at l.ends.items l.text
