-- Cells that are put one after another into one object.
use Rattle.std.specs.Prelude.{ℤ, pos, ◌+ℤ◌, nat_eq, if◌then◌else◌, List, [], ◌∷◌}
use Rattle.c3_base.specs.declared.cell.Cell.{Cell}
use Rattle.c_memory.specs.declared.spot.Spot.{Spot}
use Rattle.c_memory.specs.Memory.{Object, with_cell}

abbrev pub with_cells : List Cell → ℤ → List Cell → List Cell
with_cells cells place [] = cells
with_cells cells place (c ∷ cs) = with_cells (with_cell cells place c) (place +ℤ pos 1) cs

abbrev pub put_cells : List Object → Spot → List Cell → List Object
put_cells [] p cs = []
put_cells (o ∷ os) p cs = if nat_eq o.serial p.serial then record { serial = o.serial; cells = with_cells o.cells p.place cs } ∷ os else o ∷ put_cells os p cs
