-- In lowered code a Free stands behind a Step, and no jump leads to one.
use Rattle.std.proofs.Common.{◌≡◌, ℕ, suc, ◌+◌, List, [], ◌∷◌, ◌++◌, length, map, Option, Some, None, true, false, refl, sym, ap, subst, arith}
use Rattle.c_kernel.specs.declared.program.Action.{Action}
use Rattle.c_kernel.specs.declared.program.Action.TheVariants as action
use Rattle.c_kernel.specs.declared.program.Arm.{Arm}
use Rattle.c_kernel.specs.declared.program.Expr.{Expr}
use Rattle.c_kernel.specs.declared.program.Stmt.{Stmt}
use Rattle.c_kernel.specs.declared.program.Stmt.TheOpen.{Stmt-F}
use Rattle.c_kernel.specs.declared.program.Stmt.TheOpen as stmt
use Rattle.c_kernel.specs.declared.program.Stmt.TheFolds.{map-Stmt}
use Rattle.flat_code.specs.declared.code.Instr.{Instr}
use Rattle.flat_code.specs.declared.code.Instr.TheVariants.{Goto, Unless, Return}
use Rattle.ccift_lower.specs.Lowered.{Lowering, sizes, codes, instr_of, jump, jump_size, arms_size, arms_code, for_size, for_loop, form, lowering, lowerings, body_code}
use Rattle.ccift_lower.proofs.Statements.{by_parts, All, AllArms, OfParts}
use Rattle.ccift_lower.proofs.Lays.{low_arm, lowering_roll, sized, codes_length, Has, has_front, has_back, has_all}
use Rattle.turn_bounds.specs.Spaced.{is_free}
use Rattle.turn_bounds.proofs.Fits.{IsOpen, Fits, fits_any, fits_both}

module _ (code : List Instr) where
  abbrev Open : ℕ → Type 0
  Open p = IsOpen code p

  abbrev FitsIn : List Instr → Type 0
  FitsIn is = Fits Open false is

  -- where a statement's code lies in this code, a jump may lead to it, and the statement's own jumps lead to such places
  abbrev SoundLow : Lowering → Type 0
  SoundLow l = (p leave again : ℕ) → Has code p (l.code p leave again) → Open leave → Open again → Open (p + l.size) → Open p × FitsIn (l.code p leave again)

  abbrev Sound : Stmt → Type 0
  Sound s = SoundLow (lowering s)

  all_codes : (ss : List Stmt) → All Sound ss → (p leave again end : ℕ) → p + sizes (lowerings ss) ≡ end → Has code p (codes (lowerings ss) p leave again) → Open leave → Open again → Open end → Open p × FitsIn (codes (lowerings ss) p leave again)
  all_codes [] h p leave again end z at ol oa oe = let e : end ≡ p = omega (arith, z) in (subst Open e oe, tt)
  all_codes (s ∷ ss) h p leave again end z at ol oa oe =
      let first = (lowering s).code p leave again in
      let q = p + (lowering s).size in
      let others = codes (lowerings ss) q leave again in
      let y : q + sizes (lowerings ss) ≡ end = omega (arith, z) in
      let rest = all_codes ss h.1 q leave again end y (has_back code p first others (lowering s).size (sized s p leave again) at) ol oa oe in
      let one = h.0 p leave again (has_front code p first others at) ol oa rest.0 in
      (one.0, fits_both Open false first others one.1 rest.1)

  acts_fit : (al : List Action) → FitsIn (map instr_of al)
  acts_fit [] = tt
  acts_fit (action.Zero k ∷ al) = (tt, acts_fit al)
  acts_fit (action.Set place value ∷ al) = (tt, acts_fit al)
  acts_fit (action.Call into f arguments ∷ al) = (tt, acts_fit al)
  acts_fit (action.Malloc place bytes each ∷ al) = (tt, acts_fit al)

  acts_open : (al : List Action) (q to : ℕ) → Has code q (map instr_of al ++ Goto to ∷ []) → Open q
  acts_open [] q to h = ap is_free h.0
  acts_open (action.Zero k ∷ al) q to h = ap is_free h.0
  acts_open (action.Set place value ∷ al) q to h = ap is_free h.0
  acts_open (action.Call into f arguments ∷ al) q to h = ap is_free h.0
  acts_open (action.Malloc place bytes each ∷ al) q to h = ap is_free h.0

  -- ---- the arms of an if

  jump_open : (arms : List (Arm Stmt)) (ss : List Stmt) (q end : ℕ) → q + jump_size (map low_arm arms) (lowerings ss) + arms_size (map low_arm arms) (lowerings ss) ≡ end → Has code q (jump (map low_arm arms) (lowerings ss) end) → Open end → Open q
  jump_open [] [] q end z h oe = let e : end ≡ q = omega (arith, z) in subst Open e oe
  jump_open [] (s ∷ ss) q end z h oe = ap is_free h.0
  jump_open (a ∷ arms) ss q end z h oe = ap is_free h.0

  jump_fits : (arms : List (Arm Lowering)) (ls : List Lowering) (end : ℕ) → Open end → FitsIn (jump arms ls end)
  jump_fits [] [] end oe = tt
  jump_fits [] (l ∷ ls) end oe = (oe, tt)
  jump_fits (a ∷ arms) ls end oe = (oe, tt)

  jump_length : (arms : List (Arm Lowering)) (ls : List Lowering) (end : ℕ) → length (jump arms ls end) ≡ jump_size arms ls
  jump_length [] [] end = refl
  jump_length [] (l ∷ ls) end = refl
  jump_length (a ∷ arms) ls end = refl

  all_arms : (arms : List (Arm Stmt)) (ss : List Stmt) → AllArms Sound arms → All Sound ss → (p end leave again : ℕ) → p + arms_size (map low_arm arms) (lowerings ss) ≡ end → Has code p (arms_code (map low_arm arms) (lowerings ss) p end leave again) → Open leave → Open again → Open end →
      Open p × FitsIn (arms_code (map low_arm arms) (lowerings ss) p end leave again)
  all_arms [] ss h k p end leave again z at ol oa oe = all_codes ss k p leave again end z at ol oa oe
  all_arms (a ∷ arms) ss h k p end leave again z at ol oa oe =
      let ls = lowerings ss in
      let la = map low_arm arms in
      let body = codes (lowerings a.body) (p + 1) leave again in
      let mid = p + 1 + sizes (lowerings a.body) in
      let next = mid + jump_size la ls in
      let others = arms_code la ls next end leave again in
      let after = has_back code (p + 1) body (jump la ls end ++ others) (sizes (lowerings a.body)) (codes_length a.body (p + 1) leave again) at.1 in
      let y : next + arms_size la ls ≡ end = omega (arith, z) in
      let om = jump_open arms ss mid end y (has_front code mid (jump la ls end) others after) oe in
      let rest = all_arms arms ss h.1 k next end leave again y (has_back code mid (jump la ls end) others (jump_size la ls) (jump_length la ls end) after) ol oa oe in
      let inner = all_codes a.body h.0 (p + 1) leave again mid refl (has_front code (p + 1) body (jump la ls end ++ others) at.1) ol oa om in
      let fit = fits_both Open false body (jump la ls end ++ others) inner.1 (fits_both Open false (jump la ls end) others (jump_fits la ls end oe) rest.1) in
      (ap is_free at.0, (rest.0, fit))

  -- ---- loops

  while_fits : (e : Expr) (ss : List Stmt) → All Sound ss → (p end : ℕ) → p + (1 + (sizes (lowerings ss) + 1)) ≡ end → Has code p (Unless e end ∷ (codes (lowerings ss) (p + 1) end p ++ Goto p ∷ [])) → Open end → FitsIn (Unless e end ∷ (codes (lowerings ss) (p + 1) end p ++ Goto p ∷ []))
  while_fits e ss h p end z at oe =
      let inner = codes (lowerings ss) (p + 1) end p in
      let mid = p + 1 + sizes (lowerings ss) in
      let back = has_back code (p + 1) inner (Goto p ∷ []) (sizes (lowerings ss)) (codes_length ss (p + 1) end p) at.1 in
      let op : Open p = ap is_free at.0 in
      let body = all_codes ss h (p + 1) end p mid refl (has_front code (p + 1) inner (Goto p ∷ []) at.1) oe op (ap is_free back.0) in
      (oe, fits_both Open false inner (Goto p ∷ []) body.1 (op, tt))

  do_fits : (e : Expr) (ss : List Stmt) → All Sound ss → (p end test : ℕ) → p + sizes (lowerings ss) ≡ test → Has code p (codes (lowerings ss) p end test ++ Unless e end ∷ Goto p ∷ []) → Open end → FitsIn (codes (lowerings ss) p end test ++ Unless e end ∷ Goto p ∷ [])
  do_fits e ss h p end test z at oe =
      let inner = codes (lowerings ss) p end test in
      let back = subst (λ (k : ℕ). Has code k (Unless e end ∷ Goto p ∷ [])) z (has_back code p inner (Unless e end ∷ Goto p ∷ []) (sizes (lowerings ss)) (codes_length ss p end test) at) in
      let ot : Open test = ap is_free back.0 in
      let body = all_codes ss h p end test test z (has_front code p inner (Unless e end ∷ Goto p ∷ []) at) oe ot ot in
      fits_both Open false inner (Unless e end ∷ Goto p ∷ []) body.1 (oe, (body.0, tt))

  -- from behind the test of a for
  rest_fits : (al : List Action) (ss : List Stmt) → All Sound ss → (p test end : ℕ) → Has code p (codes (lowerings ss) p end (p + sizes (lowerings ss)) ++ (map instr_of al ++ Goto test ∷ [])) → Open end →
      Open p × (Open test → FitsIn (codes (lowerings ss) p end (p + sizes (lowerings ss)) ++ (map instr_of al ++ Goto test ∷ [])))
  rest_fits al ss h p test end at oe =
      let step = p + sizes (lowerings ss) in
      let inner = codes (lowerings ss) p end step in
      let last = map instr_of al ++ Goto test ∷ [] in
      let os : Open step = acts_open al step test (has_back code p inner last (sizes (lowerings ss)) (codes_length ss p end step) at) in
      let body = all_codes ss h p end step step refl (has_front code p inner last at) oe os os in
      (body.0, λ ot. fits_both Open false inner last body.1 (fits_both Open false (map instr_of al) (Goto test ∷ []) (acts_fit al) (ot, tt)))

  for_fits : (e : Option Expr) (al : List Action) (ss : List Stmt) → All Sound ss → (p end : ℕ) → Has code p (for_loop e al (lowerings ss) p end) → Open end → FitsIn (for_loop e al (lowerings ss) p end)
  for_fits None al ss h p end at oe =
      let z : p + 0 ≡ p = omega arith in
      let at' = subst (λ (k : ℕ). Has code k (codes (lowerings ss) (p + 0) end (p + 0 + sizes (lowerings ss)) ++ (map instr_of al ++ Goto p ∷ []))) (sym z) at in
      let rest = rest_fits al ss h (p + 0) p end at' oe in
      rest.1 (subst Open z rest.0)
  for_fits (Some e) al ss h p end at oe =
      let rest = rest_fits al ss h (p + 1) p end at.1 oe in
      (oe, rest.1 (ap is_free at.0))

  acts_length : (al : List Action) → length (map instr_of al) ≡ length al
  acts_length [] = refl
  acts_length (a ∷ al) = ap suc (acts_length al)

  -- ---- statements

  form_fits : (x : Stmt-F Stmt) → OfParts Sound x → (p leave again end : ℕ) → p + (form (map-Stmt Stmt Lowering lowering x)).size ≡ end → Has code p ((form (map-Stmt Stmt Lowering lowering x)).code p leave again) → Open leave → Open again → Open end → Fits Open true ((form (map-Stmt Stmt Lowering lowering x)).code p leave again)
  form_fits (stmt.Actions al) h p leave again end z at ol oa oe = fits_any Open true (map instr_of al) (acts_fit al)
  form_fits (stmt.Block ss) h p leave again end z at ol oa oe = fits_any Open true (codes (lowerings ss) p leave again) (all_codes ss h p leave again end z at ol oa oe).1
  form_fits (stmt.If arms ss) h p leave again end z at ol oa oe =
      let last = p + arms_size (map low_arm arms) (lowerings ss) in
      fits_any Open true (arms_code (map low_arm arms) (lowerings ss) p last leave again) (all_arms arms ss h.0 h.1 p last leave again refl at ol oa (subst Open (sym z) oe)).1
  form_fits (stmt.While e ss) h p leave again end z at ol oa oe =
      let last = p + (1 + (sizes (lowerings ss) + 1)) in
      fits_any Open true (Unless e last ∷ (codes (lowerings ss) (p + 1) last p ++ Goto p ∷ [])) (while_fits e ss h p last refl at (subst Open (sym z) oe))
  form_fits (stmt.DoWhile ss e) h p leave again end z at ol oa oe =
      let last = p + (sizes (lowerings ss) + 2) in
      let test = p + sizes (lowerings ss) in
      fits_any Open true (codes (lowerings ss) p last test ++ Unless e last ∷ Goto p ∷ []) (do_fits e ss h p last test refl at (subst Open (sym z) oe))
  form_fits (stmt.For start e al ss) h p leave again end z at ol oa oe =
      let last = p + for_size start e al (lowerings ss) in
      let test = p + length start in
      let loop = for_loop e al (lowerings ss) test last in
      let fit = for_fits e al ss h test last (has_back code p (map instr_of start) loop (length start) (acts_length start) at) (subst Open (sym z) oe) in
      fits_any Open true (map instr_of start ++ loop) (fits_both Open false (map instr_of start) loop (acts_fit start) fit)
  form_fits stmt.Break h p leave again end z at ol oa oe = (ol, tt)
  form_fits stmt.Continue h p leave again end z at ol oa oe = (oa, tt)
  form_fits (stmt.Return e) h p leave again end z at ol oa oe = (tt, tt)
  form_fits (stmt.Print format arguments) h p leave again end z at ol oa oe = (tt, tt)
  form_fits (stmt.Free e) h p leave again end z at ol oa oe = (refl, tt)
  form_fits (stmt.Mpi call) h p leave again end z at ol oa oe = (tt, tt)
  form_fits stmt.Mark h p leave again end z at ol oa oe = (tt, tt)

  sound : (s : Stmt) → Sound s
  sound = by_parts Sound (λ x parts. subst SoundLow (sym (lowering_roll x)) (λ p leave again at ol oa oe.
      let l = form (map-Stmt Stmt Lowering lowering x) in
      let z : p + 1 + l.size ≡ p + (1 + l.size) = omega arith in
      (ap is_free at.0, (tt, form_fits x parts (p + 1) leave again (p + (1 + l.size)) z at.1 ol oa oe))))

  every : (ss : List Stmt) → All Sound ss
  every [] = tt
  every (s ∷ ss) = (sound s, every ss)

  pub body_fits : (ss : List Stmt) (end : Option Expr) → Has code 0 (body_code ss end) → Fits Open false (body_code ss end)
  body_fits ss end at =
      let n = 1 + sizes (lowerings ss) in
      let inner = codes (lowerings ss) 1 n n in
      let o : 0 + 1 ≡ 1 = omega arith in
      let behind = subst (λ (k : ℕ). Has code k (inner ++ Return end ∷ [])) o at.1 in
      let back = has_back code 1 inner (Return end ∷ []) (sizes (lowerings ss)) (codes_length ss 1 n n) behind in
      let on : Open n = ap is_free back.0 in
      let body = all_codes ss (every ss) 1 n n n refl (has_front code 1 inner (Return end ∷ []) behind) on on on in
      (tt, fits_any Open true (inner ++ Return end ∷ []) (fits_both Open false inner (Return end ∷ []) body.1 (tt, tt)))

pub lowered_fits : (ss : List Stmt) (end : Option Expr) → Fits (IsOpen (body_code ss end)) false (body_code ss end)
lowered_fits ss end = body_fits (body_code ss end) ss end (has_all (body_code ss end) [])
