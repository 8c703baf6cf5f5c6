use Rattle.std.proofs.Common.{◌≡◌, drop, map}
use Rattle.c_memory.specs.Memory.{number}
use Rattle.c_memory.specs.Written.{with_cells}
use Rattle.c_memory.proofs.object.put_from.Given as goal

abbrev pub invariant-loop-n : goal.invariant-loop-n
invariant-loop-n l = with_cells l.cells.items l.place (map number (drop l.n-index l.numbers)) ≡ with_cells l.fn.cells.items l.at (map number l.numbers)
