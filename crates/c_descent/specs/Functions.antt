-- Functions without their type specifiers.
use Rattle.c_tree.specs.declared.tree.Item.{Item}
use Rattle.c_tree.specs.declared.tree.Item.TheVariants as item
use Rattle.c_grammar.specs.Grammar as part
use Rattle.c_grammar.specs.Meaning.{Forest, none, node, ◌+++◌}
use Rattle.c_grammar.specs.Trees.{heading_row, block_tree, statement_row}

-- what stands in the parse tree after the type specifier
abbrev pub function_tree : Item → Forest
function_tree (item.Prototype h) = node part.Function (heading_row h) none
function_tree (item.Function h body) = node part.Function (heading_row h +++ block_tree statement_row body) none
function_tree _ = none
