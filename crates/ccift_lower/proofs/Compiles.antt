-- The lowered code is that of its program, and both start alike.
use Rattle.std.proofs.Common.{◌≡◌, ℕ, zero, suc, ◌+◌, List, [], ◌∷◌, ◌++◌, length, map, Option, Some, None, Bool, true, false, Result, Ok, Err, refl, sym, ap, ◌∙◌, subst, arith, FitsSigned, w8, w32, w64}
use Rattle.std.proofs.lemmas.Int.{int_wrap_fits, ints}
use Rattle.std.specs.Prelude.{ℤ, pos, nat_lt, if◌then◌else◌, slice_get}
use Rattle.c3_base.specs.declared.cell.Cell.{Cell}
use Rattle.c_kernel.specs.declared.types.CType.{CType}
use Rattle.c_kernel.specs.declared.types.Base.{Base}
use Rattle.c_kernel.specs.declared.types.Base.TheVariants as base
use Rattle.c_kernel.specs.declared.types.IntegerType.{IntegerType}
use Rattle.c_kernel.specs.declared.types.IntegerType.TheVariants.{Char, Int, Long}
use Rattle.c_kernel.specs.declared.program.Expr.{Expr}
use Rattle.c_kernel.specs.declared.program.Expr.TheFolds.{fold-roll-Expr}
use Rattle.c_kernel.specs.declared.program.Expr.TheOpen.{Expr-F}
use Rattle.c_kernel.specs.declared.program.Expr.TheVariants as expr
use Rattle.c_kernel.specs.declared.program.Function.{Function}
use Rattle.c_kernel.specs.declared.program.Program.{Program}
use Rattle.c_kernel.specs.declared.program.Stmt.{Stmt}
use Rattle.mpi_effects.specs.declared.seat.Phase.TheVariants.{Before}
use Rattle.c_values.specs.Variables.{variables_from}
use Rattle.c_values.specs.declared.value.Variables.{Variables}
use Rattle.c_memory.specs.Memory.{Memory, empty, number, enter}
use Rattle.c_values.specs.Value.{Meaning, meaning_node, narrowed, value_of}
use Rattle.c_meaning.specs.State.{Body}
use Rattle.c_meaning.specs.State as state
use Rattle.c_meaning.specs.Step.{body_of, lengths_of, seat_of, start}
use Rattle.flat_code.specs.declared.code.FlatFunction.{FlatFunction}
use Rattle.flat_code.specs.declared.code.Instr.{Instr}
use Rattle.flat_code.specs.declared.code.Instr.TheVariants.{Step, Return}
use Rattle.ccift_lower.specs.Lowered.{sizes, codes, lowerings, base_end, end_of, body_code, lowered_function, lowered}
use Rattle.flat_code.specs.Machine.{Frame, Machine, code_at, code_in, lengths_in}
use Rattle.flat_code.specs.Machine as machine
use Rattle.ccift_lower.specs.Stands.{result_of, EndsAt, Stands, body, ends, Wait, none, World, state_in, machine_in, StandsFor, nowhere, stands}
use Rattle.ccift_lower.specs.Follows.{Compiled}
use Rattle.ccift_lower.proofs.Lays.{Has, has_front, has_back, has_all, codes_length, laid_at}

-- ---- a function's end gives 0 or NULL

zero_of : (kind : IntegerType) → number (narrowed kind (pos 0)) ≡ number (pos 0)
zero_of Char = let f : FitsSigned w8 (pos 0) = omega (arith, ints) in ap number (int_wrap_fits w8 (pos 0) f)
zero_of Int = let f : FitsSigned w32 (pos 0) = omega (arith, ints) in ap number (int_wrap_fits w32 (pos 0) f)
zero_of Long = let f : FitsSigned w64 (pos 0) = omega (arith, ints) in ap number (int_wrap_fits w64 (pos 0) f)

value_zero : (kind : IntegerType) (v : Variables) (m : Memory) → value_of (expr.Number (pos 0) kind) v m ≡ Ok (number (pos 0))
value_zero kind v m =
    ap (λ (x : Expr). value_of x v m) (sym (expr.rolls-Number (pos 0) kind))
    ∙ ap (λ (f : Meaning). f v m) (fold-roll-Expr Meaning meaning_node (Expr-F.Number (pos 0) kind))
    ∙ ap Ok (zero_of kind)

value_null : (v : Variables) (m : Memory) → value_of expr.Null v m ≡ Ok (number (pos 0))
value_null v m = ap (λ (x : Expr). value_of x v m) (sym expr.rolls-Null) ∙ ap (λ (f : Meaning). f v m) (fold-roll-Expr Meaning meaning_node Expr-F.Null)

abbrev GivesZero : Option Expr → Type 0
GivesZero end = (v : Variables) (m : Memory) → result_of end v m ≡ Ok (number (pos 0))

base_zero : (b : Base) → GivesZero (base_end b)
base_zero (base.Integer kind) v m = value_zero kind v m
base_zero base.Void v m = refl
base_zero (base.Struct n) v m = refl

end_by : (b : Bool) (k : Base) → GivesZero (if b then Some expr.Null else base_end k)
end_by true k v m = value_null v m
end_by false k v m = base_zero k v m

end_zero : (k : CType) → GivesZero (end_of k)
end_zero k = end_by (nat_lt 0 k.stars) k.base

-- ---- bodies

body_stands : (ss : List Stmt) (end : Option Expr) → GivesZero end → Stands (body_code ss end) (Body ss ∷ []) 0 (1 + sizes (lowerings ss)) (1 + sizes (lowerings ss))
body_stands ss end gives =
    let code = body_code ss end in
    let last = 1 + sizes (lowerings ss) in
    let all : Has code 0 code = has_all code [] in
    let o : 0 + 1 ≡ 1 = omega arith in
    let after = subst (λ k. Has code k (codes (lowerings ss) 1 last last ++ Return end ∷ [])) o all.1 in
    let back = has_back code 1 (codes (lowerings ss) 1 last last) (Return end ∷ []) (sizes (lowerings ss)) (codes_length ss 1 last last) after in
    let at_end : EndsAt code last = record { end = end; at = back.0; zero = gives } in
    let laid = laid_at code ss 1 last last (has_front code 1 (codes (lowerings ss) 1 last last) (Return end ∷ []) after) in
    body ss [] 0 last last last all.0 laid (ends last last last at_end at_end at_end)

bodies : (functions : List Function) (f : ℕ) → (leave : ℕ) × (again : ℕ) × Stands (code_at (map lowered_function functions) f) (Body (body_of functions f) ∷ []) 0 leave again
bodies [] f = (1 + sizes (lowerings []), 1 + sizes (lowerings []), body_stands [] None (λ v m. refl))
bodies (g ∷ functions) zero = (1 + sizes (lowerings g.body), 1 + sizes (lowerings g.body), body_stands g.body (end_of g.result) (end_zero g.result))
bodies (g ∷ functions) (suc f) = bodies functions f

lengths : (functions : List Function) (f : ℕ) → lengths_of functions f ≡ lengths_in (map lowered_function functions) f
lengths [] f = refl
lengths (g ∷ functions) zero = refl
lengths (g ∷ functions) (suc f) = lengths functions f

pub compiled : (functions : List Function) → Compiled functions (map lowered_function functions)
compiled functions = record { lengths = lengths functions; bodies = bodies functions }

-- ---- the start

start_by : (p : Program) (rank ranks : ℕ) (entered : Result Memory ℕ) → StandsFor (map lowered_function p.functions)
    (elim entered [
      | Err code ↦ record { calls = []; memory = empty; seat = seat_of p rank ranks; phase = Before; printed = 0; asked = None }
      | Ok m ↦ record { calls = record { todo = Body (body_of p.functions p.main) ∷ []; variables = variables_from 1 (length (lengths_of p.functions p.main)) } ∷ []; memory = m; seat = seat_of p rank ranks; phase = Before; printed = 0; asked = None }
    ])
    (elim entered [
      | Err code ↦ record { frames = []; sites = []; described = []; memory = empty; seat = seat_of p rank ranks; phase = Before; printed = 0; asked = None }
      | Ok m ↦ record { frames = record { function = p.main; place = 0; variables = variables_from 1 (length (lengths_of p.functions p.main)) } ∷ []; sites = []; described = []; memory = m; seat = seat_of p rank ranks; phase = Before; printed = 0; asked = None }
    ])
start_by p rank ranks (Err code) = nowhere (record { sites = []; described = []; memory = empty; seat = seat_of p rank ranks; phase = Before; printed = 0; asked = None })
start_by p rank ranks (Ok m) =
    let b = bodies p.functions p.main in
    stands (record { sites = []; described = []; memory = m; seat = seat_of p rank ranks; phase = Before; printed = 0; asked = None }) (Body (body_of p.functions p.main) ∷ []) p.main 0 b.0 b.1 (variables_from 1 (length (lengths_of p.functions p.main))) [] [] b.2 none

pub starts : (p : Program) (rank ranks : ℕ) → StandsFor (lowered p).functions (start p rank ranks) (machine.start (lowered p) rank ranks)
starts p rank ranks =
    subst (λ lengths. StandsFor (map lowered_function p.functions) (start p rank ranks) (elim (enter empty lengths) [
      | Err code ↦ record { frames = []; sites = []; described = []; memory = empty; seat = seat_of p rank ranks; phase = Before; printed = 0; asked = None }
      | Ok m ↦ record { frames = record { function = p.main; place = 0; variables = variables_from 1 (length lengths) } ∷ []; sites = []; described = []; memory = m; seat = seat_of p rank ranks; phase = Before; printed = 0; asked = None }
    ])) (lengths p.functions p.main) (start_by p rank ranks (enter empty (lengths_of p.functions p.main)))
