use Rattle.file_fields.proofs.Items.{GoesOn}
use Rattle.file_fields.proofs.list.read_items.Given as goal

abbrev pub invariant-loop-at : goal.invariant-loop-at
invariant-loop-at g l = GoesOn (λ at. g.T.Field.form) l.count l.fn.text l._at l.items l.text
