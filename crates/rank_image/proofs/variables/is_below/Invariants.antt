use Rattle.std.proofs.Common.{◌↔◌, ◌<◌, drop}
use Rattle.std.specs.List.{All}
use Rattle.rank_image.proofs.variables.is_below.Given as goal

abbrev pub invariant-loop-cell : goal.invariant-loop-cell
invariant-loop-cell l = All (λ c. c.serial < l.next) (drop l.cell-index l.cell-items) ↔ All (λ c. c.serial < l.next) l.o.cells
