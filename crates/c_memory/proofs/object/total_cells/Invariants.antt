use Rattle.std.proofs.Common.{◌≡◌, take}
use Rattle.c_memory.specs.Seen.{objects_of}
use Rattle.c_memory.specs.Memory.{cells_in}
use Rattle.c_memory.proofs.object.total_cells.Given as goal

abbrev pub invariant-loop-o : goal.invariant-loop-o
invariant-loop-o l = l.n ≡ cells_in (objects_of (take l.o-index l.objects))
