-- Objects as their definitions see them.
use Rattle.std.specs.Prelude.{ℕ, List, map}
use Rattle.c_memory.specs.Memory as spec
use Rattle.c_memory.specs.declared.object.Object.{Object}

abbrev pub object_of : Object → spec.Object
object_of o = record { serial = o.serial; cells = o.cells.items }

abbrev pub objects_of : List Object → List spec.Object
objects_of os = map object_of os

abbrev pub serial_of : Object → ℕ
serial_of o = o.serial
