-- What a program is lowered to is the code of its statements.
use Rattle.std.proofs.Common.{◌≡◌, ℕ, zero, suc, ◌+◌, ◌<◌, List, [], ◌∷◌, ◌++◌, length, map, Option, Some, None, Bool, true, false, Ok, refl, sym, ap, ◌∙◌, subst, arith, length-append, append_assoc}
use Rattle.std.specs.Prelude.{pos, nat_lt, if◌then◌else◌, slice_get}
use Rattle.std.proofs.Math.Seq.{get_or-append_seam}
use Rattle.std.proofs.lemmas.Option.{slice_get-get_or}
use Rattle.c_kernel.specs.declared.types.CType.{CType}
use Rattle.c_kernel.specs.declared.types.Base.{Base}
use Rattle.c_kernel.specs.declared.types.Base.TheVariants as base
use Rattle.c_kernel.specs.declared.types.IntegerType.TheVariants.{Char, Int, Long}
use Rattle.c_kernel.specs.declared.program.Action.{Action}
use Rattle.c_kernel.specs.declared.program.Arm.{Arm}
use Rattle.c_kernel.specs.declared.program.Expr.{Expr}
use Rattle.c_kernel.specs.declared.program.Function.{Function}
use Rattle.c_kernel.specs.declared.program.Stmt.{Stmt, out-Stmt}
use Rattle.c_kernel.specs.declared.program.Stmt.TheOpen.{Stmt-F}
use Rattle.c_kernel.specs.declared.program.Stmt.TheOpen as stmt
use Rattle.c_kernel.specs.declared.program.Stmt.TheFolds.{fold-roll-Stmt, map-Stmt}
use Rattle.c_kernel.specs.declared.program.Stmt.TheViews.{roll-Stmt, out-roll-Stmt}
use Rattle.flat_code.specs.declared.code.FlatFunction.{FlatFunction}
use Rattle.flat_code.specs.declared.code.Instr.{Instr}
use Rattle.flat_code.specs.declared.code.Instr.TheVariants.{Step, Goto, Unless, Return}
use Rattle.ccift_lower.specs.Lowered.{Lowering, sizes, codes, instr_of, jump, jump_size, arms_size, arms_code, for_test, test_size, for_size, for_loop, form, lowering_step, lowering, lowerings}
use Rattle.ccift_lower.specs.Laid.{At, Acts, done, act, Laid, empty, cons, Chosen, otherwise, arm, Looped, while_loop, do_loop, forever_loop, Formed, Leads}
use Rattle.ccift_lower.specs.Laid as laid
use Rattle.ccift_lower.proofs.Statements.{by_parts, All, AllArms, OfParts}

-- ---- how many instructions there are

abbrev pub IsSized : Lowering → Type 0
IsSized l = (p leave again : ℕ) → length (l.code p leave again) ≡ l.size

abbrev pub Sized : Stmt → Type 0
Sized s = IsSized (lowering s)

map_length : (al : List Action) → length (map instr_of al) ≡ length al
map_length [] = refl
map_length (a ∷ al) = ap suc (map_length al)

codes_sized : (ss : List Stmt) → All Sized ss → (p leave again : ℕ) → length (codes (lowerings ss) p leave again) ≡ sizes (lowerings ss)
codes_sized [] h p leave again = refl
codes_sized (s ∷ ss) h p leave again =
    length-append ((lowering s).code p leave again) (codes (lowerings ss) (p + (lowering s).size) leave again)
    ∙ omega (arith, h.0 p leave again, codes_sized ss h.1 (p + (lowering s).size) leave again)

abbrev pub low_arm : Arm Stmt → Arm Lowering
low_arm a = record { test = a.test; body = lowerings a.body }

jump_sized : (arms : List (Arm Lowering)) (ls : List Lowering) (end : ℕ) → length (jump arms ls end) ≡ jump_size arms ls
jump_sized [] [] end = refl
jump_sized [] (l ∷ ls) end = refl
jump_sized (a ∷ arms) ls end = refl

arms_sized : (arms : List (Arm Stmt)) (ss : List Stmt) → AllArms Sized arms → All Sized ss → (p end leave again : ℕ) → length (arms_code (map low_arm arms) (lowerings ss) p end leave again) ≡ arms_size (map low_arm arms) (lowerings ss)
arms_sized [] ss h k p end leave again = codes_sized ss k p leave again
arms_sized (a ∷ arms) ss h k p end leave again =
    let ls = lowerings ss in
    let la = map low_arm arms in
    let body = lowerings a.body in
    let next = p + 1 + sizes body + jump_size la ls in
    omega (
      arith,
      length-append (codes body (p + 1) leave again) (jump la ls end ++ arms_code la ls next end leave again),
      length-append (jump la ls end) (arms_code la ls next end leave again),
      jump_sized la ls end,
      codes_sized a.body h.0 (p + 1) leave again,
      arms_sized arms ss h.1 k next end leave again,
    )

test_sized : (e : Option Expr) (end : ℕ) → length (for_test e end) ≡ test_size e
test_sized None end = refl
test_sized (Some e) end = refl

for_sized : (e : Option Expr) (al : List Action) (ss : List Stmt) → All Sized ss → (p end : ℕ) → length (for_loop e al (lowerings ss) p end) ≡ test_size e + (sizes (lowerings ss) + (length al + 1))
for_sized e al ss h p end =
    let ls = lowerings ss in
    let inner = codes ls (p + test_size e) end (p + test_size e + sizes ls) in
    omega (
      arith,
      length-append (for_test e end) (inner ++ (map instr_of al ++ Goto p ∷ [])),
      test_sized e end,
      length-append inner (map instr_of al ++ Goto p ∷ []),
      codes_sized ss h (p + test_size e) end (p + test_size e + sizes ls),
      length-append (map instr_of al) (Goto p ∷ []),
      map_length al,
    )

form_sized : (x : Stmt-F Stmt) → OfParts Sized x → IsSized (form (map-Stmt Stmt Lowering lowering x))
form_sized (stmt.Actions al) h p leave again = map_length al
form_sized (stmt.Block ss) h p leave again = codes_sized ss h p leave again
form_sized (stmt.If arms ss) h p leave again = arms_sized arms ss h.0 h.1 p (p + arms_size (map low_arm arms) (lowerings ss)) leave again
form_sized (stmt.While e ss) h p leave again =
    let end = p + (1 + (sizes (lowerings ss) + 1)) in
    omega (arith, length-append (codes (lowerings ss) (p + 1) end p) (Goto p ∷ []), codes_sized ss h (p + 1) end p)
form_sized (stmt.DoWhile ss e) h p leave again =
    let end = p + (sizes (lowerings ss) + 2) in
    omega (arith, length-append (codes (lowerings ss) p end (p + sizes (lowerings ss))) (Unless e end ∷ Goto p ∷ []), codes_sized ss h p end (p + sizes (lowerings ss)))
form_sized (stmt.For start e al ss) h p leave again =
    let end = p + for_size start e al (lowerings ss) in
    omega (arith, length-append (map instr_of start) (for_loop e al (lowerings ss) (p + length start) end), map_length start, for_sized e al ss h (p + length start) end)
form_sized stmt.Break h p leave again = refl
form_sized stmt.Continue h p leave again = refl
form_sized (stmt.Return e) h p leave again = refl
form_sized (stmt.Print format arguments) h p leave again = refl
form_sized (stmt.Free e) h p leave again = refl
form_sized (stmt.Mpi call) h p leave again = refl
form_sized stmt.Mark h p leave again = refl

pub lowering_roll : (x : Stmt-F Stmt) → lowering (roll-Stmt x) ≡ lowering_step (map-Stmt Stmt Lowering lowering x)
lowering_roll x = fold-roll-Stmt Lowering lowering_step x

pub sized : (s : Stmt) → Sized s
sized = by_parts Sized (λ x parts. subst IsSized (sym (lowering_roll x)) (λ p leave again. omega (arith, form_sized x parts (p + 1) leave again)))

all_sized : (ss : List Stmt) → All Sized ss
all_sized [] = tt
all_sized (s ∷ ss) = (sized s, all_sized ss)

pub codes_length : (ss : List Stmt) (p leave again : ℕ) → length (codes (lowerings ss) p leave again) ≡ sizes (lowerings ss)
codes_length ss p leave again = codes_sized ss (all_sized ss) p leave again

-- ---- instructions at a place

abbrev pub Has : List Instr → ℕ → List Instr → Type 0
Has code p [] = Unit {0}
Has code p (i ∷ is) = At code p i × Has code (p + 1) is

pub has_front : (code : List Instr) (p : ℕ) (a b : List Instr) → Has code p (a ++ b) → Has code p a
has_front code p [] b h = tt
has_front code p (i ∷ a) b h = (h.0, has_front code (p + 1) a b h.1)

pub has_back : (code : List Instr) (p : ℕ) (a b : List Instr) (n : ℕ) → length a ≡ n → Has code p (a ++ b) → Has code (p + n) b
has_back code p [] b n e h = let z : p ≡ p + n = omega (arith, e) in subst (λ k. Has code k b) z h
has_back code p (i ∷ a) b n e h =
    let z : p + 1 + length a ≡ p + n = omega (arith, e) in
    subst (λ k. Has code k b) z (has_back code (p + 1) a b (length a) refl h.1)

pub has_all : (is pre : List Instr) → Has (pre ++ is) (length pre) is
has_all [] pre = tt
has_all (i ∷ is) pre =
    let within : length pre < length (pre ++ i ∷ is) = omega (arith, length-append pre (i ∷ is)) in
    let here = slice_get-get_or (pre ++ i ∷ is) (length pre) i within ∙ ap Some (get_or-append_seam pre i is i) in
    let n : length (pre ++ i ∷ []) ≡ length pre + 1 = omega (arith, length-append pre (i ∷ [])) in
    let rest = has_all is (pre ++ i ∷ []) in
    let rest' = subst (λ l. Has l (length (pre ++ i ∷ [])) is) (append_assoc pre (i ∷ []) is) rest in
    (here, subst (λ m. Has (pre ++ i ∷ is) m is) n rest')

-- ---- they are the code of a statement

abbrev Lies : Stmt → Type 0
Lies s = (code : List Instr) (p leave again : ℕ) → Has code p ((lowering s).code p leave again) → At code p Step × Formed code (out-Stmt s) (p + 1) (p + (lowering s).size) leave again

acts_lie : (code : List Instr) (al : List Action) (p end : ℕ) → p + length al ≡ end → Has code p (map instr_of al) → Acts code al p end
acts_lie code [] p end e h = let z : p ≡ end = omega (arith, e) in subst (λ k. Acts code [] p k) z (done p)
acts_lie code (a ∷ al) p end e h = let z : p + 1 + length al ≡ end = omega (arith, e) in act a al p end h.0 (acts_lie code al (p + 1) end z h.1)

all_lie : (code : List Instr) (ss : List Stmt) (p end leave again : ℕ) → All Lies ss → p + sizes (lowerings ss) ≡ end → Has code p (codes (lowerings ss) p leave again) → Laid code ss p end leave again
all_lie code [] p end leave again all e h = let z : p ≡ end = omega (arith, e) in subst (λ k. Laid code [] p k leave again) z (empty p leave again)
all_lie code (s ∷ ss) p end leave again all e h =
    let first = (lowering s).code p leave again in
    let others = codes (lowerings ss) (p + (lowering s).size) leave again in
    let one = all.0 code p leave again (has_front code p first others h) in
    let z : p + (lowering s).size + sizes (lowerings ss) ≡ end = omega (arith, e) in
    cons s ss p (p + (lowering s).size) end leave again one.0 one.1
    (all_lie code ss (p + (lowering s).size) end leave again all.1 z (has_back code p first others (lowering s).size (sized s p leave again) h))

jump_lies : (code : List Instr) (arms : List (Arm Stmt)) (ss : List Stmt) (p next end : ℕ) → next ≡ p + jump_size (map low_arm arms) (lowerings ss) → next + arms_size (map low_arm arms) (lowerings ss) ≡ end → Has code p (jump (map low_arm arms) (lowerings ss) end) → Leads code p end
jump_lies code [] [] p next end e f h = let z : p ≡ end = omega (arith, e, f) in subst (λ k. Leads code p k) z (laid.here p)
jump_lies code [] (s ∷ ss) p next end e f h = laid.jump p end end h.0 (laid.here end)
jump_lies code (a ∷ arms) ss p next end e f h = laid.jump p end end h.0 (laid.here end)

arms_lie : (code : List Instr) (arms : List (Arm Stmt)) (ss : List Stmt) (p end leave again : ℕ) → AllArms Lies arms → All Lies ss → p + arms_size (map low_arm arms) (lowerings ss) ≡ end → Has code p (arms_code (map low_arm arms) (lowerings ss) p end leave again) → Chosen code arms ss p end leave again
arms_lie code [] ss p end leave again all last e h = otherwise ss p end leave again (all_lie code ss p end leave again last e h)
arms_lie code (a ∷ arms) ss p end leave again all last e h =
    let ls = lowerings ss in
    let la = map low_arm arms in
    let body = codes (lowerings a.body) (p + 1) leave again in
    let mid = p + 1 + sizes (lowerings a.body) in
    let next = mid + jump_size la ls in
    let others = arms_code la ls next end leave again in
    let after = has_back code (p + 1) body (jump la ls end ++ others) (sizes (lowerings a.body)) (codes_length a.body (p + 1) leave again) h.1 in
    let z : next + arms_size la ls ≡ end = omega (arith, e) in
    arm a arms ss p mid next end leave again h.0
    (all_lie code a.body (p + 1) mid leave again all.0 refl (has_front code (p + 1) body (jump la ls end ++ others) h.1))
    (jump_lies code arms ss mid next end refl z (has_front code mid (jump la ls end) others after))
    (arms_lie code arms ss next end leave again all.1 last z (has_back code mid (jump la ls end) others (jump_size la ls) (jump_sized la ls end) after))

-- the loop of a for, from its test on
for_lies : (code : List Instr) (start al : List Action) (e : Option Expr) (ss : List Stmt) (p end : ℕ) → All Lies ss → Has code p (for_loop e al (lowerings ss) p end) → Looped code (stmt.For start e al ss) p (p + test_size e + sizes (lowerings ss)) end
for_lies code start al None ss p end all h =
    let ls = lowerings ss in
    let step = p + 0 + sizes ls in
    let inner = codes ls (p + 0) end step in
    let z : p + 0 ≡ p = omega arith in
    let front = has_front code p inner (map instr_of al ++ Goto p ∷ []) h in
    let back = has_back code p inner (map instr_of al ++ Goto p ∷ []) (sizes ls) (codes_length ss (p + 0) end step) h in
    let y : p + sizes ls ≡ step = omega arith in
    let back' = subst (λ k. Has code k (map instr_of al ++ Goto p ∷ [])) y back in
    let laid_in = subst (λ k. Laid code ss k step end step) z (all_lie code ss (p + 0) step end step all refl (subst (λ k. Has code k inner) (sym z) front)) in
    forever_loop start al ss p step (step + length al) end laid_in
    (acts_lie code al step (step + length al) refl (has_front code step (map instr_of al) (Goto p ∷ []) back'))
    (has_back code step (map instr_of al) (Goto p ∷ []) (length al) (map_length al) back').0
for_lies code start al (Some e) ss p end all h =
    let ls = lowerings ss in
    let step = p + 1 + sizes ls in
    let inner = codes ls (p + 1) end step in
    let back = has_back code (p + 1) inner (map instr_of al ++ Goto p ∷ []) (sizes ls) (codes_length ss (p + 1) end step) h.1 in
    laid.for_loop start al e ss p step (step + length al) end h.0
    (all_lie code ss (p + 1) step end step all refl (has_front code (p + 1) inner (map instr_of al ++ Goto p ∷ []) h.1))
    (acts_lie code al step (step + length al) refl (has_front code step (map instr_of al) (Goto p ∷ []) back))
    (has_back code step (map instr_of al) (Goto p ∷ []) (length al) (map_length al) back).0

form_lies : (x : Stmt-F Stmt) → OfParts Lies x → (code : List Instr) (p leave again : ℕ) → Has code p ((form (map-Stmt Stmt Lowering lowering x)).code p leave again) → Formed code x p (p + (form (map-Stmt Stmt Lowering lowering x)).size) leave again
form_lies (stmt.Actions al) all code p leave again h = laid.actions al p (p + length al) leave again (acts_lie code al p (p + length al) refl h)
form_lies (stmt.Block ss) all code p leave again h = laid.block ss p (p + sizes (lowerings ss)) leave again (all_lie code ss p (p + sizes (lowerings ss)) leave again all refl h)
form_lies (stmt.If arms ss) all code p leave again h =
    let end = p + arms_size (map low_arm arms) (lowerings ss) in
    laid.choice arms ss p end leave again (arms_lie code arms ss p end leave again all.0 all.1 refl h)
form_lies (stmt.While e ss) all code p leave again h =
    let end = p + (1 + (sizes (lowerings ss) + 1)) in
    let mid = p + 1 + sizes (lowerings ss) in
    let inner = codes (lowerings ss) (p + 1) end p in
    laid.while e ss p end leave again (while_loop e ss p mid end h.0
    (all_lie code ss (p + 1) mid end p all refl (has_front code (p + 1) inner (Goto p ∷ []) h.1))
    (has_back code (p + 1) inner (Goto p ∷ []) (sizes (lowerings ss)) (codes_length ss (p + 1) end p) h.1).0)
form_lies (stmt.DoWhile ss e) all code p leave again h =
    let end = p + (sizes (lowerings ss) + 2) in
    let test = p + sizes (lowerings ss) in
    let inner = codes (lowerings ss) p end test in
    let front = all_lie code ss p test end test all refl (has_front code p inner (Unless e end ∷ Goto p ∷ []) h) in
    let back = has_back code p inner (Unless e end ∷ Goto p ∷ []) (sizes (lowerings ss)) (codes_length ss p end test) h in
    laid.do_while ss e p test end leave again front (do_loop ss e test p end front back.0 back.1.0)
form_lies (stmt.For start e al ss) all code p leave again h =
    let end = p + for_size start e al (lowerings ss) in
    let test = p + length start in
    let inner = for_loop e al (lowerings ss) test end in
    laid.for start al e ss p test (test + test_size e + sizes (lowerings ss)) end leave again
    (acts_lie code start p test refl (has_front code p (map instr_of start) inner h))
    (for_lies code start al e ss test end all (has_back code p (map instr_of start) inner (length start) (map_length start) h))
form_lies stmt.Break all code p leave again h = laid.break p (p + 1) leave again h.0
form_lies stmt.Continue all code p leave again h = laid.continue p (p + 1) leave again h.0
form_lies (stmt.Return e) all code p leave again h = laid.return e p (p + 1) leave again h.0
form_lies (stmt.Print format arguments) all code p leave again h = laid.print format arguments p leave again h.0
form_lies (stmt.Free e) all code p leave again h = laid.free e p leave again h.0
form_lies (stmt.Mpi call) all code p leave again h = laid.mpi call p leave again h.0
form_lies stmt.Mark all code p leave again h = laid.mark 0 p leave again h.0

pub lies : (s : Stmt) → Lies s
lies = by_parts Lies (λ x parts code p leave again h.
    let l = form (map-Stmt Stmt Lowering lowering x) in
    let h' = subst (λ (k : Lowering). Has code p (k.code p leave again)) (lowering_roll x) h in
    let e : p + 1 + l.size ≡ p + (lowering_step (map-Stmt Stmt Lowering lowering x)).size = omega arith in
    let formed = subst (λ k. Formed code x (p + 1) k leave again) e (form_lies x parts code (p + 1) leave again h'.1) in (
      h'.0,
      subst (λ (y : Stmt-F Stmt). Formed code y (p + 1) (p + (lowering (roll-Stmt x)).size) leave again) (sym (out-roll-Stmt x))
          (subst (λ (k : Lowering). Formed code x (p + 1) (p + k.size) leave again) (sym (lowering_roll x)) formed),
    ))

every : (ss : List Stmt) → All Lies ss
every [] = tt
every (s ∷ ss) = (lies s, every ss)

pub laid_at : (code : List Instr) (ss : List Stmt) (p leave again : ℕ) → Has code p (codes (lowerings ss) p leave again) → Laid code ss p (p + sizes (lowerings ss)) leave again
laid_at code ss p leave again h = all_lie code ss p (p + sizes (lowerings ss)) leave again (every ss) refl h
