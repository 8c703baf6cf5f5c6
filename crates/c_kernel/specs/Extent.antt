-- How much room objects take.
use Rattle.std.specs.Prelude.{ℕ, nat_lt, if◌then◌else◌, List, Some, None, slice_get}
use Rattle.c_kernel.specs.declared.types.CType.{CType}
use Rattle.c_kernel.specs.declared.types.Base.{Base}
use Rattle.c_kernel.specs.declared.types.Base.TheVariants as base
use Rattle.c_kernel.specs.declared.types.IntegerType.{IntegerType}
use Rattle.c_kernel.specs.declared.types.IntegerType.TheVariants.{Char, Int, Long}
use Rattle.c_kernel.specs.declared.types.Extent.{Extent}
use Rattle.c_kernel.specs.declared.types.Struct.{Struct}

abbrev pub integer_size : IntegerType → ℕ
integer_size Char = 1
integer_size Int = 4
integer_size Long = 8

abbrev pub nothing : Extent
nothing = record { cells = 0; size = 0 }

abbrev pub struct_extent : List Struct → ℕ → Extent
struct_extent structs number = elim (slice_get structs number) [ None ↦ nothing | Some s ↦ s.extent ]

abbrev pub base_extent : List Struct → Base → Extent
base_extent structs (base.Integer kind) = record { cells = 1; size = integer_size kind }
base_extent structs base.Void = nothing
base_extent structs (base.Struct number) = struct_extent structs number

-- a number or a pointer has one cell
abbrev pub extent : List Struct → CType → Extent
extent structs kind = if nat_lt 0 kind.stars then record { cells = 1; size = 16 } else base_extent structs kind.base
