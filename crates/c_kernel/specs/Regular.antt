-- Programs whose statements each do little at once, and whose loops begin statements.
use Rattle.std.specs.Prelude.{◌≡◌, ℕ, max, nat_le, nat_lt, Bool, true, false, ◌&&◌, List, [], ◌∷◌, length}
use Rattle.std.specs.List.{list_all}
use Rattle.c_kernel.specs.declared.types.ObjectType.{ObjectType}
use Rattle.c_kernel.specs.declared.program.Action.{Action}
use Rattle.c_kernel.specs.declared.program.Stmt.{Stmt}
use Rattle.c_kernel.specs.declared.program.Stmt.TheOpen.{Stmt-F}
use Rattle.c_kernel.specs.declared.program.Stmt.TheOpen as stmt
use Rattle.c_kernel.specs.declared.program.Stmt.TheFolds.{fold-Stmt}
use Rattle.c_kernel.specs.declared.program.Function.{Function}
use Rattle.c_kernel.specs.declared.program.Program.{Program}

-- a variable has at least one cell
abbrev pub has_cell : ObjectType → Bool
has_cell t = nat_lt 0 t.cells

-- at most one action for each of so many variables, or one
abbrev pub are_few : ℕ → List Action → Bool
are_few n actions = nat_le (length actions) (max 1 n)

abbrev pub are_regular : List Bool → Bool
are_regular parts = list_all (λ part. part) parts

-- a loop's body, which isn't empty
abbrev pub is_body : List Bool → Bool
is_body [] = false
is_body (part ∷ parts) = part && are_regular parts

-- a statement of a function with so many variables, by whether its parts are regular
abbrev pub regular_node : ℕ → Stmt-F Bool → Bool
regular_node n (stmt.Actions actions) = are_few n actions
regular_node n (stmt.Block parts) = are_regular parts
regular_node n (stmt.If arms otherwise) = list_all (λ arm. are_regular arm.body) arms && are_regular otherwise
regular_node n (stmt.While e body) = is_body body
regular_node n (stmt.DoWhile body e) = is_body body
regular_node n (stmt.For start e last body) = are_few n start && (are_few 0 last && is_body body)
regular_node n stmt.Break = true
regular_node n stmt.Continue = true
regular_node n (stmt.Return e) = true
regular_node n (stmt.Print format arguments) = true
regular_node n (stmt.Free e) = true
regular_node n (stmt.Mpi call) = true
regular_node n stmt.Mark = true

abbrev pub is_regular : ℕ → Stmt → Bool
is_regular n = fold-Stmt Bool (regular_node n)

abbrev pub is_regular_function : Function → Bool
is_regular_function f = list_all has_cell f.variables && list_all (is_regular (length f.variables)) f.body

abbrev pub AreRegular : List Function → Type 0
AreRegular functions = list_all is_regular_function functions ≡ true

abbrev pub IsRegular : Program → Type 0
IsRegular p = AreRegular p.functions
