-- Programs that ask malloc for objects that have cells.
use Rattle.std.specs.Prelude.{◌≡◌, nat_eq, nat_lt, Bool, true, ◌&&◌, ◌||◌, List}
use Rattle.std.specs.List.{list_all}
use Rattle.c_kernel.specs.declared.program.Action.{Action}
use Rattle.c_kernel.specs.declared.program.Action.TheVariants.{Malloc}
use Rattle.c_kernel.specs.declared.program.Function.{Function}
use Rattle.c_kernel.specs.declared.program.Program.{Program}
use Rattle.c_kernel.specs.declared.program.Stmt.{Stmt}
use Rattle.c_kernel.specs.declared.program.Stmt.TheOpen.{Stmt-F}
use Rattle.c_kernel.specs.declared.program.Stmt.TheOpen as stmt
use Rattle.c_kernel.specs.declared.program.Stmt.TheFolds.{fold-Stmt}

-- what malloc is asked for has a cell, if it has a size
abbrev pub has_object : Action → Bool
has_object (Malloc place bytes each) = nat_lt 0 each.cells || nat_eq each.size 0
has_object other = true

abbrev pub have_objects : List Bool → Bool
have_objects parts = list_all (λ part. part) parts

-- a statement, by whether its parts do
abbrev pub objects_node : Stmt-F Bool → Bool
objects_node (stmt.Actions actions) = list_all has_object actions
objects_node (stmt.Block parts) = have_objects parts
objects_node (stmt.If arms otherwise) = list_all (λ arm. have_objects arm.body) arms && have_objects otherwise
objects_node (stmt.While e body) = have_objects body
objects_node (stmt.DoWhile body e) = have_objects body
objects_node (stmt.For start e last body) = list_all has_object start && (list_all has_object last && have_objects body)
objects_node stmt.Break = true
objects_node stmt.Continue = true
objects_node (stmt.Return e) = true
objects_node (stmt.Print format arguments) = true
objects_node (stmt.Free e) = true
objects_node (stmt.Mpi call) = true
objects_node stmt.Mark = true

abbrev pub asks_for_cells : Stmt → Bool
asks_for_cells = fold-Stmt Bool objects_node

abbrev pub is_solid_function : Function → Bool
is_solid_function f = list_all asks_for_cells f.body

abbrev pub HasObjects : Program → Type 0
HasObjects p = list_all is_solid_function p.functions ≡ true
