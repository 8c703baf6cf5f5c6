use Rattle.image_text.specs.Texts.{early_form}
use Rattle.file_fields.proofs.Items.{GoesOn}
use Rattle.image_text.proofs.fields.read_early.Given as goal

abbrev pub invariant-loop-rank : goal.invariant-loop-rank
invariant-loop-rank l = GoesOn early_form l.ranks l.fn.text l.rank l.early l.text
