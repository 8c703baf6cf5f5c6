-- In passed code too, and every function begins with its Enter and a Step.
use Rattle.std.proofs.Common.{◌≡◌, ℕ, zero, suc, ◌+◌, List, [], ◌∷◌, ◌++◌, length, map, Option, Some, None, Bool, false, refl, ap, ◌∙◌, arith}
use Rattle.std.specs.Prelude.{slice_get}
use Rattle.c_kernel.specs.declared.program.Expr.{Expr}
use Rattle.c_kernel.specs.declared.program.Function.{Function}
use Rattle.c_kernel.specs.declared.program.Program.{Program}
use Rattle.c_kernel.specs.declared.program.Stmt.{Stmt}
use Rattle.flat_code.specs.declared.code.Instr.{Instr}
use Rattle.flat_code.specs.declared.code.Instr.TheVariants.{Step, Zero, Set, Call, Malloc, Free, Goto, Unless, Return, Mark, Push, Pop, Leave, Enter, Print, Mpi}
use Rattle.flat_code.specs.Machine.{code_at}
use Rattle.ccift_lower.specs.Lowered.{sizes, codes, lowerings, end_of, body_code, lowered_function, lowered}
use Rattle.ccift_pass.specs.Passed.{sites, passes, all_passed, widths, moved, site_places, sites_in, passed_code, passed_from, passed}
use Rattle.rank_machine.specs.Placing.{is_step}
use Rattle.turn_bounds.specs.Spaced.{is_free, IsSpacedCode, IsSpaced}
use Rattle.turn_bounds.proofs.Fits.{IsOpen, Keeps, Fits, spaced_code, spaced_entered}
use Rattle.turn_bounds.proofs.LoweredFits.{lowered_fits}

-- ---- where a jump may lead, one may lead to what that is passed to

skip : (i : Instr) (is : List Instr) (n : ℕ) → slice_get (i ∷ is) (1 + n) ≡ slice_get is n
skip i is n = let e : 1 + n ≡ suc n = omega arith in ap (slice_get (i ∷ is)) e

skip_two : (i j : Instr) (is : List Instr) (n : ℕ) → slice_get (i ∷ j ∷ is) (2 + n) ≡ slice_get is n
skip_two i j is n = let e : 2 + n ≡ suc (suc n) = omega arith in ap (slice_get (i ∷ j ∷ is)) e

skip_three : (i j k : Instr) (is : List Instr) (n : ℕ) → slice_get (i ∷ j ∷ k ∷ is) (3 + n) ≡ slice_get is n
skip_three i j k is n = let e : 3 + n ≡ suc (suc (suc n)) = omega arith in ap (slice_get (i ∷ j ∷ k ∷ is)) e

open_first : (to : ℕ → ℕ) (site : ℕ) (i : Instr) (is : List Instr) → is_free (Some i) ≡ false → is_free (slice_get (passes to site i ++ is) 0) ≡ false
open_first to site Step is h = refl
open_first to site (Zero k) is h = refl
open_first to site (Set place value) is h = refl
open_first to site (Call into f arguments) is h = refl
open_first to site (Malloc place bytes each) is h = refl
open_first to site (Free e) is h = absurd cc
open_first to site (Goto p) is h = refl
open_first to site (Unless e p) is h = refl
open_first to site (Return e) is h = refl
open_first to site (Mark n) is h = refl
open_first to site (Push n) is h = refl
open_first to site Pop is h = refl
open_first to site Leave is h = refl
open_first to site (Enter variables list) is h = refl
open_first to site (Print format arguments) is h = refl
open_first to site (Mpi call) is h = refl

past_first : (to : ℕ → ℕ) (site : ℕ) (i : Instr) (is code : List Instr) (p : ℕ) → slice_get (passes to site i ++ is) (widths (i ∷ code) (suc p)) ≡ slice_get is (widths code p)
past_first to site Step is code p = skip _ is (widths code p)
past_first to site (Zero k) is code p = skip _ is (widths code p)
past_first to site (Set place value) is code p = skip _ is (widths code p)
past_first to site (Call into f arguments) is code p = skip_three _ _ _ is (widths code p)
past_first to site (Malloc place bytes each) is code p = skip _ is (widths code p)
past_first to site (Free e) is code p = skip _ is (widths code p)
past_first to site (Goto q) is code p = skip _ is (widths code p)
past_first to site (Unless e q) is code p = skip _ is (widths code p)
past_first to site (Return e) is code p = skip_two _ _ is (widths code p)
past_first to site (Mark n) is code p = skip_three _ _ _ is (widths code p)
past_first to site (Push n) is code p = skip _ is (widths code p)
past_first to site Pop is code p = skip _ is (widths code p)
past_first to site Leave is code p = skip _ is (widths code p)
past_first to site (Enter variables list) is code p = skip _ is (widths code p)
past_first to site (Print format arguments) is code p = skip _ is (widths code p)
past_first to site (Mpi call) is code p = skip _ is (widths code p)

open_behind : (to : ℕ → ℕ) (site : ℕ) (code : List Instr) (p : ℕ) → IsOpen code p → IsOpen (all_passed to site code) (widths code p)
open_behind to site [] zero h = refl
open_behind to site [] (suc p) h = refl
open_behind to site (i ∷ code) zero h = open_first to site i (all_passed to (site + sites i) code) h
open_behind to site (i ∷ code) (suc p) h = ap is_free (past_first to site i (all_passed to (site + sites i) code) code p) ∙ open_behind to (site + sites i) code p h

open_moved : (variables site : ℕ) (code : List Instr) (p : ℕ) → IsOpen code p → IsOpen (passed_code variables site code) (moved code p)
open_moved variables site code p h = ap is_free (skip (Enter variables (site_places 1 site code)) (all_passed (moved code) site code) (widths code p)) ∙ open_behind (moved code) site code p h

-- ---- what code that fits is passed to fits

module _ (Open Moved : ℕ → Type 0) (to : ℕ → ℕ) (opens : (p : ℕ) → Open p → Moved (to p)) where
  passes_fit : (after : Bool) (site : ℕ) (i : Instr) (is : List Instr) → Keeps Open after i → Fits Moved (is_step (Some i)) is → Fits Moved after (passes to site i ++ is)
  passes_fit after site Step is h k = (tt, k)
  passes_fit after site (Zero n) is h k = (tt, k)
  passes_fit after site (Set place value) is h k = (tt, k)
  passes_fit after site (Call into f arguments) is h k = (tt, (tt, (tt, k)))
  passes_fit after site (Malloc place bytes each) is h k = (tt, k)
  passes_fit after site (Free e) is h k = (h, k)
  passes_fit after site (Goto p) is h k = (opens p h, k)
  passes_fit after site (Unless e p) is h k = (opens p h, k)
  passes_fit after site (Return e) is h k = (tt, (tt, k))
  passes_fit after site (Mark n) is h k = (tt, (tt, (tt, k)))
  passes_fit after site (Push n) is h k = (tt, k)
  passes_fit after site Pop is h k = (tt, k)
  passes_fit after site Leave is h k = (tt, k)
  passes_fit after site (Enter variables list) is h k = absurd h
  passes_fit after site (Print format arguments) is h k = (tt, k)
  passes_fit after site (Mpi call) is h k = (tt, k)

  pub passed_fits : (after : Bool) (site : ℕ) (code : List Instr) → Fits Open after code → Fits Moved after (all_passed to site code)
  passed_fits after site [] h = tt
  passed_fits after site (i ∷ code) h = passes_fit after site i (all_passed to (site + sites i) code) h.0 (passed_fits (is_step (Some i)) (site + sites i) code h.1)

-- ---- functions

body_spaced : (variables site : ℕ) (ss : List Stmt) (end : Option Expr) → IsSpacedCode (passed_code variables site (body_code ss end))
body_spaced variables site ss end =
    let code = body_code ss end in
    let n = 1 + sizes (lowerings ss) in
    let rest = all_passed (moved code) (site + 0) (codes (lowerings ss) 1 n n ++ Return end ∷ []) in
    spaced_entered variables (site_places 1 site code) rest
    (passed_fits (IsOpen code) (IsOpen (passed_code variables site code)) (moved code) (open_moved variables site code) false site code (lowered_fits ss end))

missing_spaced : IsSpacedCode (Step ∷ Return None ∷ [])
missing_spaced = spaced_code (Return None ∷ []) (tt, (tt, tt))

spaced_from : (site : ℕ) (fs : List Function) (f : ℕ) → IsSpacedCode (code_at (passed_from site (map lowered_function fs)) f)
spaced_from site [] f = missing_spaced
spaced_from site (g ∷ fs) zero = body_spaced (length g.variables) site g.body (end_of g.result)
spaced_from site (g ∷ fs) (suc f) = spaced_from (site + sites_in (body_code g.body (end_of g.result))) fs f

pub spaced : (p : Program) → IsSpaced (passed (lowered p)).functions
spaced p f = spaced_from 1 p.functions f
