use Rattle.std.proofs.Common.{◌<◌, ℕ}
use Rattle.std.specs.Prelude.{get_or}
use Rattle.rank_machine.specs.WellFormed.{IsBelow}
use Rattle.image_text.specs.declared.object.SavedObject.{SavedObject}
use Rattle.rank_image.proofs.variables.are_below.Given as goal

abbrev pub invariant-loop-o : goal.invariant-loop-o
invariant-loop-o l = (k : ℕ) (d : SavedObject) → k < l.o-index → IsBelow l.next (get_or l.objects k d)
