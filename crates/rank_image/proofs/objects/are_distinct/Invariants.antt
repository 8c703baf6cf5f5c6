use Rattle.std.proofs.Common.{◌↔◌, ◌++◌, drop}
use Rattle.rank_machine.specs.WellFormed.{AreDistinct}
use Rattle.rank_image.proofs.News.{AreNew}
use Rattle.rank_image.proofs.objects.are_distinct.Given as goal

abbrev pub invariant-loop-v : goal.invariant-loop-v
invariant-loop-v l = AreNew l.taken (drop l.v-index l.variables ++ l.objects) ↔ AreDistinct (l.variables ++ l.objects)

abbrev pub invariant-loop-o : goal.invariant-loop-o
invariant-loop-o l = AreNew l.taken (drop l.o-index l.objects) ↔ AreDistinct (l.variables ++ l.objects)
