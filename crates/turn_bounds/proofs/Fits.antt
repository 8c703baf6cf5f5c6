-- Code by its instructions, one after another: where its jumps lead, and what stands before a Free.
use Rattle.std.proofs.Common.{◌≡◌, ℕ, zero, suc, List, [], ◌∷◌, ◌++◌, Some, Bool, true, false, refl, sym, ap, ◌∙◌, subst, add-one}
use Rattle.std.specs.Prelude.{slice_get}
use Rattle.c_kernel.specs.declared.program.Expr.{Expr}
use Rattle.flat_code.specs.declared.code.Site.{Site}
use Rattle.flat_code.specs.declared.code.Instr.{Instr}
use Rattle.flat_code.specs.declared.code.Instr.TheVariants.{Step, Zero, Set, Call, Malloc, Free, Goto, Unless, Return, Mark, Push, Pop, Leave, Enter, Print, Mpi}
use Rattle.ccift_lower.specs.Laid.{At}
use Rattle.rank_machine.specs.Placing.{is_step}
use Rattle.turn_bounds.specs.Spaced.{is_free, IsSpacedCode}

-- a jump may lead to a place of this code
abbrev pub IsOpen : List Instr → ℕ → Type 0
IsOpen code p = is_free (slice_get code p) ≡ false

-- an instruction, behind a Step or not, whose jump leads to such a place
abbrev pub Keeps : (ℕ → Type 0) → Bool → Instr → Type 0
Keeps Open after (Goto to) = Open to
Keeps Open after (Unless e to) = Open to
Keeps Open after (Free e) = after ≡ true
Keeps Open after (Enter variables sites) = ⊥
Keeps Open after other = Unit {0}

abbrev pub Fits : (ℕ → Type 0) → Bool → List Instr → Type 0
Fits Open after [] = Unit {0}
Fits Open after (i ∷ is) = Keeps Open after i × Fits Open (is_step (Some i)) is

keeps_any : (Open : ℕ → Type 0) (after : Bool) (i : Instr) → Keeps Open false i → Keeps Open after i
keeps_any Open after Step h = tt
keeps_any Open after (Zero k) h = tt
keeps_any Open after (Set place value) h = tt
keeps_any Open after (Call into f arguments) h = tt
keeps_any Open after (Malloc place bytes each) h = tt
keeps_any Open after (Free e) h = absurd cc
keeps_any Open after (Goto to) h = h
keeps_any Open after (Unless e to) h = h
keeps_any Open after (Return e) h = tt
keeps_any Open after (Mark site) h = tt
keeps_any Open after (Push site) h = tt
keeps_any Open after Pop h = tt
keeps_any Open after Leave h = tt
keeps_any Open after (Enter variables sites) h = h
keeps_any Open after (Print format arguments) h = tt
keeps_any Open after (Mpi call) h = tt

pub fits_any : (Open : ℕ → Type 0) (after : Bool) (is : List Instr) → Fits Open false is → Fits Open after is
fits_any Open after [] h = tt
fits_any Open after (i ∷ is) h = (keeps_any Open after i h.0, h.1)

pub fits_both : (Open : ℕ → Type 0) (after : Bool) (a b : List Instr) → Fits Open after a → Fits Open false b → Fits Open after (a ++ b)
fits_both Open after [] b h k = fits_any Open after b k
fits_both Open after (i ∷ a) b h k = (h.0, fits_both Open (is_step (Some i)) a b h.1 k)

-- ---- what stands where

jump_at : (Open : ℕ → Type 0) (after : Bool) (is : List Instr) (p to : ℕ) → Fits Open after is → At is p (Goto to) → Open to
jump_at Open after [] p to h e = absurd cc
jump_at Open after (i ∷ is) zero to h e = let same : i ≡ Goto to = cc in subst (λ (x : Instr). Keeps Open after x) same h.0
jump_at Open after (i ∷ is) (suc p) to h e = jump_at Open (is_step (Some i)) is p to h.1 e

branch_at : (Open : ℕ → Type 0) (after : Bool) (is : List Instr) (p to : ℕ) (test : Expr) → Fits Open after is → At is p (Unless test to) → Open to
branch_at Open after [] p to test h e = absurd cc
branch_at Open after (i ∷ is) zero to test h e = let same : i ≡ Unless test to = cc in subst (λ (x : Instr). Keeps Open after x) same h.0
branch_at Open after (i ∷ is) (suc p) to test h e = branch_at Open (is_step (Some i)) is p to test h.1 e

no_enter : (Open : ℕ → Type 0) (after : Bool) (is : List Instr) (p variables : ℕ) (sites : List Site) → Fits Open after is → At is p (Enter variables sites) → ⊥
no_enter Open after [] p variables sites h e = absurd cc
no_enter Open after (i ∷ is) zero variables sites h e = let same : i ≡ Enter variables sites = cc in subst (λ (x : Instr). Keeps Open after x) same h.0
no_enter Open after (i ∷ is) (suc p) variables sites h e = no_enter Open (is_step (Some i)) is p variables sites h.1 e

after_step : (Open : ℕ → Type 0) (after : Bool) (i : Instr) → Keeps Open after i → is_free (Some i) ≡ true → after ≡ true
after_step Open after Step h e = absurd cc
after_step Open after (Zero k) h e = absurd cc
after_step Open after (Set place value) h e = absurd cc
after_step Open after (Call into f arguments) h e = absurd cc
after_step Open after (Malloc place bytes each) h e = absurd cc
after_step Open after (Free x) h e = h
after_step Open after (Goto to) h e = absurd cc
after_step Open after (Unless x to) h e = absurd cc
after_step Open after (Return x) h e = absurd cc
after_step Open after (Mark site) h e = absurd cc
after_step Open after (Push site) h e = absurd cc
after_step Open after Pop h e = absurd cc
after_step Open after Leave h e = absurd cc
after_step Open after (Enter variables sites) h e = absurd h
after_step Open after (Print format arguments) h e = absurd cc
after_step Open after (Mpi call) h e = absurd cc

pub a_step : (i : Instr) → is_step (Some i) ≡ true → i ≡ Step
a_step Step e = refl
a_step (Zero k) e = absurd cc
a_step (Set place value) e = absurd cc
a_step (Call into f arguments) e = absurd cc
a_step (Malloc place bytes each) e = absurd cc
a_step (Free x) e = absurd cc
a_step (Goto to) e = absurd cc
a_step (Unless x to) e = absurd cc
a_step (Return x) e = absurd cc
a_step (Mark site) e = absurd cc
a_step (Push site) e = absurd cc
a_step Pop e = absurd cc
a_step Leave e = absurd cc
a_step (Enter variables sites) e = absurd cc
a_step (Print format arguments) e = absurd cc
a_step (Mpi call) e = absurd cc

free_behind : (Open : ℕ → Type 0) (after : Bool) (i : Instr) (is : List Instr) (p : ℕ) → Fits Open after (i ∷ is) → is_free (slice_get (i ∷ is) (suc p)) ≡ true → At (i ∷ is) p Step
free_behind Open after i [] p h e = absurd cc
free_behind Open after i (j ∷ is) zero h e = ap Some (a_step i (after_step Open (is_step (Some i)) j h.1.0 e))
free_behind Open after i (j ∷ is) (suc p) h e = free_behind Open (is_step (Some i)) j is p h.1 e

-- ---- code that fits is spaced

pub spaced_code : (is : List Instr) → Fits (IsOpen (Step ∷ is)) false (Step ∷ is) → IsSpacedCode (Step ∷ is)
spaced_code is h =
    let code : List Instr = Step ∷ is in
    record {
      head = refl;
      entered = λ p variables sites e. absurd (no_enter (IsOpen code) false code p variables sites h e);
      freed = λ p e. free_behind (IsOpen code) false Step is p h (sym (ap (λ (k : ℕ). is_free (slice_get code k)) (add-one p)) ∙ e);
      jumped = λ p to e. jump_at (IsOpen code) false code p to h e;
      branched = λ p to test e. branch_at (IsOpen code) false code p to test h e;
    }

behind_enter : (variables : ℕ) (sites : List Site) (is : List Instr) → Fits (IsOpen (Enter variables sites ∷ Step ∷ is)) false (Step ∷ is) → (p n : ℕ) (list : List Site) → At (Enter variables sites ∷ Step ∷ is) p (Enter n list) → At (Enter variables sites ∷ Step ∷ is) (suc p) Step
behind_enter variables sites is h zero n list e = refl
behind_enter variables sites is h (suc p) n list e = absurd (no_enter (IsOpen (Enter variables sites ∷ Step ∷ is)) false (Step ∷ is) p n list h e)

behind_free : (variables : ℕ) (sites : List Site) (is : List Instr) → Fits (IsOpen (Enter variables sites ∷ Step ∷ is)) false (Step ∷ is) → (p : ℕ) → is_free (slice_get (Enter variables sites ∷ Step ∷ is) (suc p)) ≡ true → At (Enter variables sites ∷ Step ∷ is) p Step
behind_free variables sites is h zero e = absurd cc
behind_free variables sites is h (suc p) e = free_behind (IsOpen (Enter variables sites ∷ Step ∷ is)) false Step is p h e

jump_behind : (Open : ℕ → Type 0) (variables : ℕ) (sites : List Site) (is : List Instr) → Fits Open false is → (p to : ℕ) → At (Enter variables sites ∷ is) p (Goto to) → Open to
jump_behind Open variables sites is h zero to e = absurd cc
jump_behind Open variables sites is h (suc p) to e = jump_at Open false is p to h e

branch_behind : (Open : ℕ → Type 0) (variables : ℕ) (sites : List Site) (is : List Instr) → Fits Open false is → (p to : ℕ) (test : Expr) → At (Enter variables sites ∷ is) p (Unless test to) → Open to
branch_behind Open variables sites is h zero to test e = absurd cc
branch_behind Open variables sites is h (suc p) to test e = branch_at Open false is p to test h e

pub spaced_entered : (variables : ℕ) (sites : List Site) (is : List Instr) → Fits (IsOpen (Enter variables sites ∷ Step ∷ is)) false (Step ∷ is) → IsSpacedCode (Enter variables sites ∷ Step ∷ is)
spaced_entered variables sites is h =
    let code : List Instr = Enter variables sites ∷ Step ∷ is in
    record {
      head = refl;
      entered = λ p n list e. ap (slice_get code) (add-one p) ∙ behind_enter variables sites is h p n list e;
      freed = λ p e. behind_free variables sites is h p (sym (ap (λ (k : ℕ). is_free (slice_get code k)) (add-one p)) ∙ e);
      jumped = λ p to e. jump_behind (IsOpen code) variables sites (Step ∷ is) h p to e;
      branched = λ p to test e. branch_behind (IsOpen code) variables sites (Step ∷ is) h p to test e;
    }
