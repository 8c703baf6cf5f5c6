-- What a program is passed to asks malloc for objects that have cells, if the program does.
use Rattle.std.proofs.Common.{◌≡◌, ℕ, zero, suc, ◌+◌, ◌<◌, ◌≤◌, List, [], ◌∷◌, ◌++◌, length, map, Option, Some, None, Bool, true, false, ◌&&◌, refl, sym, ap, ◌∙◌, subst, arith}
use Rattle.std.specs.Prelude.{nat_eq, nat_lt, ◌||◌}
use Rattle.std.specs.List.{list_all}
use Rattle.std.proofs.lemmas.Bool.Decides.{nat_tests}
use Rattle.c_kernel.specs.Regular.{has_cell, is_regular, is_regular_function, IsRegular}
use Rattle.c_kernel.specs.declared.types.Extent.{Extent}
use Rattle.c_kernel.specs.declared.types.ObjectType.{ObjectType}
use Rattle.c_kernel.specs.declared.program.Action.{Action}
use Rattle.c_kernel.specs.declared.program.Action.TheVariants as action
use Rattle.c_kernel.specs.declared.program.Arm.{Arm}
use Rattle.c_kernel.specs.declared.program.Expr.{Expr}
use Rattle.c_kernel.specs.declared.program.Place.{Place}
use Rattle.c_kernel.specs.declared.program.Function.{Function}
use Rattle.c_kernel.specs.declared.program.Program.{Program}
use Rattle.c_kernel.specs.declared.program.Stmt.{Stmt}
use Rattle.c_kernel.specs.declared.program.Stmt.TheOpen.{Stmt-F}
use Rattle.c_kernel.specs.declared.program.Stmt.TheOpen as stmt
use Rattle.c_kernel.specs.declared.program.Stmt.TheFolds.{map-Stmt, fold-roll-Stmt}
use Rattle.flat_code.specs.declared.code.Instr.{Instr}
use Rattle.flat_code.specs.declared.code.Instr.TheVariants.{Step, Zero, Set, Call, Malloc, Free, Goto, Unless, Return, Mark, Push, Pop, Leave, Enter, Print, Mpi}
use Rattle.flat_code.specs.Machine.{code_at, lengths_in}
use Rattle.ccift_lower.specs.Laid.{At}
use Rattle.ccift_lower.specs.Lowered.{Lowering, sizes, codes, instr_of, jump, jump_size, arms_size, arms_code, for_test, test_size, for_size, for_loop, form, lowering, lowerings, end_of, body_code, lowered_function, lowered}
use Rattle.ccift_lower.proofs.Statements.{by_parts, All, AllArms, OfParts}
use Rattle.ccift_lower.proofs.Lays.{low_arm, lowering_roll}
use Rattle.ccift_pass.specs.Passed.{sites, passes, all_passed, moved, sites_in, passed_from, passed}
use Rattle.turn_bounds.specs.Objects.{has_object, have_objects, objects_node, asks_for_cells, is_solid_function, HasObjects}
use Rattle.turn_bounds.specs.Spaced.{HaveCells, HasCells}

abbrev IsSolid : Instr → Type 0
IsSolid (Malloc place bytes each) = 0 < each.size → 1 ≤ each.cells
IsSolid other = Unit {0}

abbrev AllSolid : List Instr → Type 0
AllSolid [] = Unit {0}
AllSolid (i ∷ is) = IsSolid i × AllSolid is

and_left : (a b : Bool) → a && b ≡ true → a ≡ true
and_left true b e = refl
and_left false b e = absurd cc

and_right : (a b : Bool) → a && b ≡ true → b ≡ true
and_right true b e = e
and_right false b e = absurd cc

both : (a b : List Instr) → AllSolid a → AllSolid b → AllSolid (a ++ b)
both [] b h k = k
both (i ∷ a) b h k = (h.0, both a b h.1 k)

-- ---- lowered code

abbrev LaidSolid : Lowering → Type 0
LaidSolid l = (p leave again : ℕ) → AllSolid (l.code p leave again)

abbrev SolidStmt : Stmt → Type 0
SolidStmt s = asks_for_cells s ≡ true → LaidSolid (lowering s)

cells_or : (cells size : ℕ) (a b : Bool) → nat_lt 0 cells ≡ a → nat_eq size 0 ≡ b → a || b ≡ true → 0 < size → 1 ≤ cells
cells_or cells size true b e f h l = grind (arith, nat_tests, e)
cells_or cells size false true e f h l = let z : size ≡ 0 = grind (arith, nat_tests, f) in absurd (omega (arith, z, l))
cells_or cells size false false e f h l = absurd cc

acts_solid : (al : List Action) → list_all has_object al ≡ true → AllSolid (map instr_of al)
acts_solid [] h = tt
acts_solid (action.Zero k ∷ al) h = (tt, acts_solid al h)
acts_solid (action.Set place value ∷ al) h = (tt, acts_solid al h)
acts_solid (action.Call into f arguments ∷ al) h = (tt, acts_solid al h)
acts_solid (action.Malloc place bytes each ∷ al) h =
    let own = has_object (action.Malloc place bytes each) in
    let one = cells_or each.cells each.size (nat_lt 0 each.cells) (nat_eq each.size 0) refl refl (and_left own (list_all has_object al) h) in
    (one, acts_solid al (and_right own (list_all has_object al) h))

codes_solid : (ss : List Stmt) → All SolidStmt ss → have_objects (map asks_for_cells ss) ≡ true → (p leave again : ℕ) → AllSolid (codes (lowerings ss) p leave again)
codes_solid [] h e p leave again = tt
codes_solid (s ∷ ss) h e p leave again =
    both ((lowering s).code p leave again) (codes (lowerings ss) (p + (lowering s).size) leave again) (h.0 (and_left (asks_for_cells s) (have_objects (map asks_for_cells ss)) e) p leave again)
    (codes_solid ss h.1 (and_right (asks_for_cells s) (have_objects (map asks_for_cells ss)) e) (p + (lowering s).size) leave again)

jump_solid : (arms : List (Arm Lowering)) (ls : List Lowering) (end : ℕ) → AllSolid (jump arms ls end)
jump_solid [] [] end = tt
jump_solid [] (l ∷ ls) end = (tt, tt)
jump_solid (a ∷ arms) ls end = (tt, tt)

abbrev objects_arm : Arm Stmt → Arm Bool
objects_arm a = record { test = a.test; body = map asks_for_cells a.body }

abbrev arms_have : List (Arm Stmt) → Bool
arms_have arms = list_all (λ arm. have_objects arm.body) (map objects_arm arms)

arms_solid : (arms : List (Arm Stmt)) (ss : List Stmt) → AllArms SolidStmt arms → All SolidStmt ss → arms_have arms ≡ true → have_objects (map asks_for_cells ss) ≡ true → (p end leave again : ℕ) → AllSolid (arms_code (map low_arm arms) (lowerings ss) p end leave again)
arms_solid [] ss h k e f p end leave again = codes_solid ss k f p leave again
arms_solid (a ∷ arms) ss h k e f p end leave again =
    let ls = lowerings ss in
    let la = map low_arm arms in
    let next = p + 1 + sizes (lowerings a.body) + jump_size la ls in
    let e0 = and_left (have_objects (map asks_for_cells a.body)) (arms_have arms) e in
    let e1 = and_right (have_objects (map asks_for_cells a.body)) (arms_have arms) e in (
      tt,
      both (codes (lowerings a.body) (p + 1) leave again) (jump la ls end ++ arms_code la ls next end leave again) (codes_solid a.body h.0 e0 (p + 1) leave again)
          (both (jump la ls end) (arms_code la ls next end leave again) (jump_solid la ls end) (arms_solid arms ss h.1 k e1 f next end leave again)),
    )

test_solid : (e : Option Expr) (end : ℕ) → AllSolid (for_test e end)
test_solid None end = tt
test_solid (Some e) end = (tt, tt)

form_solid : (x : Stmt-F Stmt) → OfParts SolidStmt x → objects_node (map-Stmt Stmt Bool asks_for_cells x) ≡ true → LaidSolid (form (map-Stmt Stmt Lowering lowering x))
form_solid (stmt.Actions al) h e p leave again = acts_solid al e
form_solid (stmt.Block ss) h e p leave again = codes_solid ss h e p leave again
form_solid (stmt.If arms ss) h e p leave again =
    let e0 = and_left (arms_have arms) (have_objects (map asks_for_cells ss)) e in
    let e1 = and_right (arms_have arms) (have_objects (map asks_for_cells ss)) e in
    arms_solid arms ss h.0 h.1 e0 e1 p (p + arms_size (map low_arm arms) (lowerings ss)) leave again
form_solid (stmt.While t ss) h e p leave again =
    let end = p + (1 + (sizes (lowerings ss) + 1)) in
    (tt, both (codes (lowerings ss) (p + 1) end p) (Goto p ∷ []) (codes_solid ss h e (p + 1) end p) (tt, tt))
form_solid (stmt.DoWhile ss t) h e p leave again =
    let end = p + (sizes (lowerings ss) + 2) in
    both (codes (lowerings ss) p end (p + sizes (lowerings ss))) (Unless t end ∷ Goto p ∷ []) (codes_solid ss h e p end (p + sizes (lowerings ss))) (tt, (tt, tt))
form_solid (stmt.For start t al ss) h e p leave again =
    let end = p + for_size start t al (lowerings ss) in
    let test = p + length start in
    let inner = codes (lowerings ss) (test + test_size t) end (test + test_size t + sizes (lowerings ss)) in
    let e0 = and_left (list_all has_object start) (list_all has_object al && have_objects (map asks_for_cells ss)) e in
    let e1 = and_right (list_all has_object start) (list_all has_object al && have_objects (map asks_for_cells ss)) e in
    let e2 = and_left (list_all has_object al) (have_objects (map asks_for_cells ss)) e1 in
    let e3 = and_right (list_all has_object al) (have_objects (map asks_for_cells ss)) e1 in
    both (map instr_of start) (for_loop t al (lowerings ss) test end) (acts_solid start e0)
    (both (for_test t end) (inner ++ (map instr_of al ++ Goto test ∷ [])) (test_solid t end)
    (both inner (map instr_of al ++ Goto test ∷ []) (codes_solid ss h e3 (test + test_size t) end (test + test_size t + sizes (lowerings ss)))
    (both (map instr_of al) (Goto test ∷ []) (acts_solid al e2) (tt, tt))))
form_solid stmt.Break h e p leave again = (tt, tt)
form_solid stmt.Continue h e p leave again = (tt, tt)
form_solid (stmt.Return x) h e p leave again = (tt, tt)
form_solid (stmt.Print format arguments) h e p leave again = (tt, tt)
form_solid (stmt.Free x) h e p leave again = (tt, tt)
form_solid (stmt.Mpi call) h e p leave again = (tt, tt)
form_solid stmt.Mark h e p leave again = (tt, tt)

solid : (s : Stmt) → SolidStmt s
solid = by_parts SolidStmt (λ x parts e.
    let f = sym (fold-roll-Stmt Bool objects_node x) ∙ e in
    subst LaidSolid (sym (lowering_roll x)) (λ p leave again. (tt, form_solid x parts f (p + 1) leave again)))

every : (ss : List Stmt) → All SolidStmt ss
every [] = tt
every (s ∷ ss) = (solid s, every ss)

mapped : (ss : List Stmt) → list_all asks_for_cells ss ≡ true → have_objects (map asks_for_cells ss) ≡ true
mapped [] e = refl
mapped (s ∷ ss) e =
    let a = and_left (asks_for_cells s) (list_all asks_for_cells ss) e in
    let b = mapped ss (and_right (asks_for_cells s) (list_all asks_for_cells ss) e) in
    ap (λ (t : Bool). t && have_objects (map asks_for_cells ss)) a ∙ b

body_solid : (ss : List Stmt) (end : Option Expr) → list_all asks_for_cells ss ≡ true → AllSolid (body_code ss end)
body_solid ss end e =
    let n = 1 + sizes (lowerings ss) in
    (tt, both (codes (lowerings ss) 1 n n) (Return end ∷ []) (codes_solid ss (every ss) (mapped ss e) 1 n n) (tt, tt))

-- ---- passed code

passes_solid : (to : ℕ → ℕ) (site : ℕ) (i : Instr) (is : List Instr) → IsSolid i → AllSolid is → AllSolid (passes to site i ++ is)
passes_solid to site Step is h k = (tt, k)
passes_solid to site (Zero n) is h k = (tt, k)
passes_solid to site (Set place value) is h k = (tt, k)
passes_solid to site (Call into f arguments) is h k = (tt, (tt, (tt, k)))
passes_solid to site (Malloc place bytes each) is h k = (h, k)
passes_solid to site (Free e) is h k = (tt, k)
passes_solid to site (Goto p) is h k = (tt, k)
passes_solid to site (Unless e p) is h k = (tt, k)
passes_solid to site (Return e) is h k = (tt, (tt, k))
passes_solid to site (Mark n) is h k = (tt, (tt, (tt, k)))
passes_solid to site (Push n) is h k = (tt, k)
passes_solid to site Pop is h k = (tt, k)
passes_solid to site Leave is h k = (tt, k)
passes_solid to site (Enter variables list) is h k = (tt, k)
passes_solid to site (Print format arguments) is h k = (tt, k)
passes_solid to site (Mpi call) is h k = (tt, k)

passed_solid : (to : ℕ → ℕ) (site : ℕ) (code : List Instr) → AllSolid code → AllSolid (all_passed to site code)
passed_solid to site [] h = tt
passed_solid to site (i ∷ code) h = passes_solid to site i (all_passed to (site + sites i) code) h.0 (passed_solid to (site + sites i) code h.1)

solid_at : (is : List Instr) (p : ℕ) (place : Place Expr) (bytes : Expr) (each : Extent) → AllSolid is → At is p (Malloc place bytes each) → 0 < each.size → 1 ≤ each.cells
solid_at [] p place bytes each h e = absurd cc
solid_at (i ∷ is) zero place bytes each h e = let same : i ≡ Malloc place bytes each = cc in subst IsSolid same h.0
solid_at (i ∷ is) (suc p) place bytes each h e = solid_at is p place bytes each h.1 e

-- ---- functions

solid_from : (site : ℕ) (fs : List Function) (f : ℕ) → list_all is_solid_function fs ≡ true → AllSolid (code_at (passed_from site (map lowered_function fs)) f)
solid_from site [] f e = (tt, (tt, tt))
solid_from site (g ∷ fs) zero e =
    let code = body_code g.body (end_of g.result) in
    (tt, passed_solid (moved code) site code (body_solid g.body (end_of g.result) (and_left (is_solid_function g) (list_all is_solid_function fs) e)))
solid_from site (g ∷ fs) (suc f) e = solid_from (site + sites_in (body_code g.body (end_of g.result))) fs f (and_right (is_solid_function g) (list_all is_solid_function fs) e)

variables_have : (ts : List ObjectType) → list_all has_cell ts ≡ true → HaveCells (map (λ t. t.cells) ts)
variables_have [] e = tt
variables_have (t ∷ ts) e =
    let a : nat_lt 0 t.cells ≡ true = and_left (has_cell t) (list_all has_cell ts) e in
    let one : 1 ≤ t.cells = grind (arith, nat_tests, a) in
    (one, variables_have ts (and_right (has_cell t) (list_all has_cell ts) e))

lengths_from : (site : ℕ) (fs : List Function) (f : ℕ) → list_all is_regular_function fs ≡ true → HaveCells (lengths_in (passed_from site (map lowered_function fs)) f)
lengths_from site [] f e = tt
lengths_from site (g ∷ fs) zero e =
    let r = and_left (is_regular_function g) (list_all is_regular_function fs) e in
    variables_have g.variables (and_left (list_all has_cell g.variables) (list_all (is_regular (length g.variables)) g.body) r)
lengths_from site (g ∷ fs) (suc f) e = lengths_from (site + sites_in (body_code g.body (end_of g.result))) fs f (and_right (is_regular_function g) (list_all is_regular_function fs) e)

pub has_cells : (p : Program) → IsRegular p → HasObjects p → HasCells (passed (lowered p)).functions
has_cells p r o = record {
  variables = λ f. lengths_from 1 p.functions f r;
  objects = λ f q place bytes each e. solid_at (code_at (passed (lowered p)).functions f) q place bytes each (solid_from 1 p.functions f o) e;
}
