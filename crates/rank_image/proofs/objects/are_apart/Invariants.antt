use Rattle.std.proofs.Common.{◌↔◌, drop, map}
use Rattle.rank_machine.specs.Saving.{block_of}
use Rattle.rank_machine.specs.Tied.{AreApart}
use Rattle.rank_image.proofs.objects.are_apart.Given as goal

abbrev pub invariant-loop-o : goal.invariant-loop-o
invariant-loop-o l = AreApart 65536 l.low (map block_of (drop l.o-index l.objects)) ↔ AreApart 65536 0 (map block_of l.objects)
