-- Blocks as their definitions see them.
use Rattle.std.specs.Prelude.{List, map}
use Rattle.flat_code.specs.Placed as placed
use Rattle.variable_stack.specs.declared.Descriptor.{Descriptor}

abbrev pub block_of : Descriptor → placed.Block
block_of d = record { serial = d.serial; place = d.place; length = d.length }

abbrev pub blocks_of : List Descriptor → List placed.Block
blocks_of ds = map block_of ds
