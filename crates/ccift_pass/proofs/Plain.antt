-- Lowered code has no instruction of the pass.
use Rattle.std.proofs.Common.{◌≡◌, ℕ, ◌+◌, List, [], ◌∷◌, ◌++◌, length, map, Option, Some, None, refl, sym, ap, subst}
use Rattle.c_kernel.specs.declared.program.Action.{Action}
use Rattle.c_kernel.specs.declared.program.Action.TheVariants as action
use Rattle.c_kernel.specs.declared.program.Arm.{Arm}
use Rattle.c_kernel.specs.declared.program.Expr.{Expr}
use Rattle.c_kernel.specs.declared.program.Function.{Function}
use Rattle.c_kernel.specs.declared.program.Stmt.{Stmt}
use Rattle.c_kernel.specs.declared.program.Stmt.TheOpen.{Stmt-F}
use Rattle.c_kernel.specs.declared.program.Stmt.TheOpen as stmt
use Rattle.c_kernel.specs.declared.program.Stmt.TheFolds.{map-Stmt}
use Rattle.flat_code.specs.declared.code.Instr.{Instr}
use Rattle.flat_code.specs.declared.code.Instr.TheVariants.{Step, Goto, Unless, Return}
use Rattle.ccift_lower.specs.Lowered.{Lowering, sizes, codes, instr_of, jump, jump_size, arms_size, arms_code, for_test, test_size, for_size, for_loop, form, lowering_step, lowering, lowerings, end_of, lowered_function}
use Rattle.ccift_pass.specs.Spots.{IsPlain}
use Rattle.ccift_lower.proofs.Statements.{by_parts, All, AllArms, OfParts}
use Rattle.ccift_lower.proofs.Lays.{low_arm, lowering_roll}
use Rattle.ccift_pass.proofs.PassPlaces.{AllPlain, FunctionsPlain}

abbrev LaidPlain : Lowering → Type 0
LaidPlain l = (p leave again : ℕ) → AllPlain (l.code p leave again)

abbrev PlainStmt : Stmt → Type 0
PlainStmt s = LaidPlain (lowering s)

both : (a b : List Instr) → AllPlain a → AllPlain b → AllPlain (a ++ b)
both [] b h k = k
both (i ∷ a) b h k = (h.0, both a b h.1 k)

acts : (al : List Action) → AllPlain (map instr_of al)
acts [] = tt
acts (action.Zero k ∷ al) = (tt, acts al)
acts (action.Set place value ∷ al) = (tt, acts al)
acts (action.Call into f arguments ∷ al) = (tt, acts al)
acts (action.Malloc place bytes each ∷ al) = (tt, acts al)

all_codes : (ss : List Stmt) → All PlainStmt ss → (p leave again : ℕ) → AllPlain (codes (lowerings ss) p leave again)
all_codes [] h p leave again = tt
all_codes (s ∷ ss) h p leave again = both ((lowering s).code p leave again) (codes (lowerings ss) (p + (lowering s).size) leave again) (h.0 p leave again) (all_codes ss h.1 (p + (lowering s).size) leave again)

a_jump : (arms : List (Arm Lowering)) (ls : List Lowering) (end : ℕ) → AllPlain (jump arms ls end)
a_jump [] [] end = tt
a_jump [] (l ∷ ls) end = (tt, tt)
a_jump (a ∷ arms) ls end = (tt, tt)

all_arms : (arms : List (Arm Stmt)) (ss : List Stmt) → AllArms PlainStmt arms → All PlainStmt ss → (p end leave again : ℕ) → AllPlain (arms_code (map low_arm arms) (lowerings ss) p end leave again)
all_arms [] ss h k p end leave again = all_codes ss k p leave again
all_arms (a ∷ arms) ss h k p end leave again =
    let ls = lowerings ss in
    let la = map low_arm arms in
    let next = p + 1 + sizes (lowerings a.body) + jump_size la ls in (
      tt,
      both (codes (lowerings a.body) (p + 1) leave again) (jump la ls end ++ arms_code la ls next end leave again) (all_codes a.body h.0 (p + 1) leave again)
          (both (jump la ls end) (arms_code la ls next end leave again) (a_jump la ls end) (all_arms arms ss h.1 k next end leave again)),
    )

a_test : (e : Option Expr) (end : ℕ) → AllPlain (for_test e end)
a_test None end = tt
a_test (Some e) end = (tt, tt)

form_plain : (x : Stmt-F Stmt) → OfParts PlainStmt x → LaidPlain (form (map-Stmt Stmt Lowering lowering x))
form_plain (stmt.Actions al) h p leave again = acts al
form_plain (stmt.Block ss) h p leave again = all_codes ss h p leave again
form_plain (stmt.If arms ss) h p leave again = all_arms arms ss h.0 h.1 p (p + arms_size (map low_arm arms) (lowerings ss)) leave again
form_plain (stmt.While e ss) h p leave again =
    let end = p + (1 + (sizes (lowerings ss) + 1)) in
    (tt, both (codes (lowerings ss) (p + 1) end p) (Goto p ∷ []) (all_codes ss h (p + 1) end p) (tt, tt))
form_plain (stmt.DoWhile ss e) h p leave again =
    let end = p + (sizes (lowerings ss) + 2) in
    both (codes (lowerings ss) p end (p + sizes (lowerings ss))) (Unless e end ∷ Goto p ∷ []) (all_codes ss h p end (p + sizes (lowerings ss))) (tt, (tt, tt))
form_plain (stmt.For start e al ss) h p leave again =
    let end = p + for_size start e al (lowerings ss) in
    let test = p + length start in
    let inner = codes (lowerings ss) (test + test_size e) end (test + test_size e + sizes (lowerings ss)) in
    both (map instr_of start) (for_loop e al (lowerings ss) test end) (acts start)
    (both (for_test e end) (inner ++ (map instr_of al ++ Goto test ∷ [])) (a_test e end)
    (both inner (map instr_of al ++ Goto test ∷ []) (all_codes ss h (test + test_size e) end (test + test_size e + sizes (lowerings ss)))
    (both (map instr_of al) (Goto test ∷ []) (acts al) (tt, tt))))
form_plain stmt.Break h p leave again = (tt, tt)
form_plain stmt.Continue h p leave again = (tt, tt)
form_plain (stmt.Return e) h p leave again = (tt, tt)
form_plain (stmt.Print format arguments) h p leave again = (tt, tt)
form_plain (stmt.Free e) h p leave again = (tt, tt)
form_plain (stmt.Mpi call) h p leave again = (tt, tt)
form_plain stmt.Mark h p leave again = (tt, tt)

plain : (s : Stmt) → PlainStmt s
plain = by_parts PlainStmt (λ x parts. subst LaidPlain (sym (lowering_roll x)) (λ p leave again. (tt, form_plain x parts (p + 1) leave again)))

every : (ss : List Stmt) → All PlainStmt ss
every [] = tt
every (s ∷ ss) = (plain s, every ss)

pub lowered_plain : (fs : List Function) → FunctionsPlain (map lowered_function fs)
lowered_plain [] = tt
lowered_plain (f ∷ fs) =
    let n = 1 + sizes (lowerings f.body) in
    ((tt, both (codes (lowerings f.body) 1 n n) (Return (end_of f.result) ∷ []) (all_codes f.body (every f.body) 1 n n) (tt, tt)), lowered_plain fs)
