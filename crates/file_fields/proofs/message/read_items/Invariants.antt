use Rattle.file_fields.specs.Messages.{item_form}
use Rattle.file_fields.proofs.Items.{GoesOn}
use Rattle.file_fields.proofs.message.read_items.Given as goal

abbrev pub invariant-loop-at : goal.invariant-loop-at
invariant-loop-at l = GoesOn (item_form l.context l.kind l.count) l.count l.fn.text l.at l.items l.text
