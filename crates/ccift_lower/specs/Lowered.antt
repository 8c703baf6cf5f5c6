-- What a program is lowered to.
use Rattle.std.specs.Prelude.{ℕ, ◌+◌, pos, nat_lt, if◌then◌else◌, List, [], ◌∷◌, ◌++◌, length, map, Option, Some, None}
use Rattle.c_kernel.specs.declared.types.CType.{CType}
use Rattle.c_kernel.specs.declared.types.Base.{Base}
use Rattle.c_kernel.specs.declared.types.Base.TheVariants as base
use Rattle.c_kernel.specs.declared.program.Program.{Program}
use Rattle.c_kernel.specs.declared.program.Function.{Function}
use Rattle.c_kernel.specs.declared.program.Action.{Action}
use Rattle.c_kernel.specs.declared.program.Action.TheVariants as action
use Rattle.c_kernel.specs.declared.program.Arm.{Arm}
use Rattle.c_kernel.specs.declared.program.Expr.{Expr}
use Rattle.c_kernel.specs.declared.program.Expr.TheVariants as expr
use Rattle.c_kernel.specs.declared.program.Stmt.{Stmt}
use Rattle.c_kernel.specs.declared.program.Stmt.TheOpen.{Stmt-F}
use Rattle.c_kernel.specs.declared.program.Stmt.TheOpen as stmt
use Rattle.c_kernel.specs.declared.program.Stmt.TheFolds.{fold-Stmt, map-Stmt}
use Rattle.flat_code.specs.declared.code.Code.{Code}
use Rattle.flat_code.specs.declared.code.FlatFunction.{FlatFunction}
use Rattle.flat_code.specs.declared.code.Instr.{Instr}
use Rattle.flat_code.specs.declared.code.Instr.TheVariants.{Step, Zero, Set, Call, Malloc, Free, Goto, Unless, Return, Mark, Print, Mpi}

-- how many instructions, and which, from a place on, where a break goes to a second place and a continue to a third
pub record Lowering : Type 0 where
  pub size : ℕ
  pub code : ℕ → ℕ → ℕ → List Instr

abbrev pub sizes : List Lowering → ℕ
sizes [] = 0
sizes (l ∷ ls) = l.size + sizes ls

-- one after another
abbrev pub codes : List Lowering → ℕ → ℕ → ℕ → List Instr
codes [] at leave again = []
codes (l ∷ ls) at leave again = l.code at leave again ++ codes ls (at + l.size) leave again

abbrev pub instr_of : Action → Instr
instr_of (action.Zero k) = Zero k
instr_of (action.Set place value) = Set place value
instr_of (action.Call into f arguments) = Call into f arguments
instr_of (action.Malloc place bytes each) = Malloc place bytes each

abbrev pub one : Instr → Lowering
one i = record { size = 1; code = λ at leave again. i ∷ [] }

-- ---- the arms of an if

-- the jump to the end, if something follows
abbrev pub jump : List (Arm Lowering) → List Lowering → ℕ → List Instr
jump [] [] end = []
jump [] (l ∷ ls) end = Goto end ∷ []
jump (a ∷ arms) ls end = Goto end ∷ []

abbrev pub jump_size : List (Arm Lowering) → List Lowering → ℕ
jump_size [] [] = 0
jump_size [] (l ∷ ls) = 1
jump_size (a ∷ arms) ls = 1

abbrev pub arms_size : List (Arm Lowering) → List Lowering → ℕ
arms_size [] ls = sizes ls
arms_size (a ∷ arms) ls = 1 + (sizes a.body + (jump_size arms ls + arms_size arms ls))

abbrev pub arms_code : List (Arm Lowering) → List Lowering → ℕ → ℕ → ℕ → ℕ → List Instr
arms_code [] ls at end leave again = codes ls at leave again
arms_code (a ∷ arms) ls at end leave again =
    Unless a.test (at + 1 + sizes a.body + jump_size arms ls)
    ∷ (codes a.body (at + 1) leave again ++ (jump arms ls end ++ arms_code arms ls (at + 1 + sizes a.body + jump_size arms ls) end leave again))

-- ---- loops

-- the test of a for, if it has one
abbrev pub for_test : Option Expr → ℕ → List Instr
for_test None end = []
for_test (Some e) end = Unless e end ∷ []

abbrev pub test_size : Option Expr → ℕ
test_size None = 0
test_size (Some e) = 1

abbrev pub for_size : List Action → Option Expr → List Action → List Lowering → ℕ
for_size start e last ls = length start + (test_size e + (sizes ls + (length last + 1)))

-- from where the test stands, with where it ends
abbrev pub for_loop : Option Expr → List Action → List Lowering → ℕ → ℕ → List Instr
for_loop e last ls at end =
    for_test e end
    ++ (codes ls (at + test_size e) end (at + test_size e + sizes ls)
    ++ (map instr_of last ++ Goto at ∷ []))

-- the loops. A break in them goes to their end; a continue goes to the test, or to the last clause of a for
abbrev pub while_loop : Expr → List Lowering → Lowering
while_loop e ls = record {
  size = 1 + (sizes ls + 1);
  code = λ at leave again. Unless e (at + (1 + (sizes ls + 1))) ∷ (codes ls (at + 1) (at + (1 + (sizes ls + 1))) at ++ Goto at ∷ []);
}

abbrev pub do_loop : List Lowering → Expr → Lowering
do_loop ls e = record {
  size = sizes ls + 2;
  code = λ at leave again. codes ls at (at + (sizes ls + 2)) (at + sizes ls) ++ Unless e (at + (sizes ls + 2)) ∷ Goto at ∷ [];
}

abbrev pub for_statement : List Action → Option Expr → List Action → List Lowering → Lowering
for_statement start e last ls = record {
  size = for_size start e last ls;
  code = λ at leave again. map instr_of start ++ for_loop e last ls (at + length start) (at + for_size start e last ls);
}

-- ---- statements, from what the statements inside are lowered to

-- what follows a statement's Step
abbrev pub form : Stmt-F Lowering → Lowering
form (stmt.Actions actions) = record { size = length actions; code = λ at leave again. map instr_of actions }
form (stmt.Block ls) = record { size = sizes ls; code = codes ls }
form (stmt.If arms otherwise) = record { size = arms_size arms otherwise; code = λ at leave again. arms_code arms otherwise at (at + arms_size arms otherwise) leave again }
form (stmt.While e ls) = while_loop e ls
form (stmt.DoWhile ls e) = do_loop ls e
form (stmt.For start e last ls) = for_statement start e last ls
form stmt.Break = record { size = 1; code = λ at leave again. Goto leave ∷ [] }
form stmt.Continue = record { size = 1; code = λ at leave again. Goto again ∷ [] }
form (stmt.Return e) = one (Return e)
form (stmt.Print format arguments) = one (Print format arguments)
form (stmt.Free e) = one (Free e)
form (stmt.Mpi call) = one (Mpi call)
form stmt.Mark = one (Mark 0)

-- every statement begins with a Step
abbrev pub begun : Lowering → Lowering
begun l = record { size = 1 + l.size; code = λ at leave again. Step ∷ l.code (at + 1) leave again }

abbrev pub lowering_step : Stmt-F Lowering → Lowering
lowering_step x = begun (form x)

abbrev pub lowering : Stmt → Lowering
lowering = fold-Stmt Lowering lowering_step

-- what follows the Step of a statement
abbrev pub formed : Stmt-F Stmt → Lowering
formed x = form (map-Stmt Stmt Lowering lowering x)

abbrev pub lowerings : List Stmt → List Lowering
lowerings ss = map lowering ss

abbrev pub arm_lowering : Arm Stmt → Arm Lowering
arm_lowering a = record { test = a.test; body = lowerings a.body }

-- ---- functions

-- what the end of a function gives: nothing, 0 or NULL
abbrev pub base_end : Base → Option Expr
base_end (base.Integer kind) = Some (expr.Number (pos 0) kind)
base_end base.Void = None
base_end (base.Struct number) = None

abbrev pub end_of : CType → Option Expr
end_of kind = if nat_lt 0 kind.stars then Some expr.Null else base_end kind.base

-- a body: it counts, and its end returns
abbrev pub body_code : List Stmt → Option Expr → List Instr
body_code ss end = Step ∷ (codes (lowerings ss) 1 (1 + sizes (lowerings ss)) (1 + sizes (lowerings ss)) ++ Return end ∷ [])

abbrev pub lowered_function : Function → FlatFunction
lowered_function f = record { name = f.name; result = f.result; parameters = f.parameters; variables = f.variables; code = body_code f.body (end_of f.result) }

abbrev pub lowered : Program → Code
lowered p = record { structs = p.structs; functions = map lowered_function p.functions; main = p.main; any_source = p.any_source }
