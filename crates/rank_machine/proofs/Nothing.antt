-- A function that isn't there.
use Rattle.std.proofs.Common.{◌≡◌, ◌≤◌, ℕ, zero, suc, false, List, [], ◌∷◌, None, refl, sym, arith}
use Rattle.std.specs.Prelude.{nat_eq, slice_get}
use Rattle.std.proofs.lemmas.Bool.Decides.{nat_tests}
use Rattle.flat_code.specs.declared.code.Instr.TheVariants.{Step, Return}
use Rattle.flat_code.specs.Machine.{target_in}
use Rattle.flat_code.specs.declared.code.FlatFunction.{FlatFunction}
use Rattle.flat_code.specs.Machine.{Frame, Machine}
use Rattle.flat_code.specs.Restart.{reacts}
use Rattle.rank_machine.specs.Placing.{is_step}
use Rattle.rank_machine.specs.Returning.{is_mark}

pub begins_nothing : (k : ℕ) → is_step (slice_get (Step ∷ Return None ∷ []) k) ≡ nat_eq k 0
begins_nothing zero = refl
begins_nothing (suc zero) = refl
begins_nothing (suc (suc k)) = let e : nat_eq (suc (suc k)) 0 ≡ false = grind (arith, nat_tests) in sym e

pub target_nothing : (k : ℕ) → target_in (slice_get (Step ∷ Return None ∷ []) k) ≡ None
target_nothing zero = refl
target_nothing (suc zero) = refl
target_nothing (suc (suc k)) = refl

pub ends_nothing : (k : ℕ) → 2 ≤ k → slice_get (Step ∷ Return None ∷ []) k ≡ None
ends_nothing zero l = absurd (omega (arith, l))
ends_nothing (suc zero) l = absurd (omega (arith, l))
ends_nothing (suc (suc k)) l = refl

pub marks_nothing : (k : ℕ) → is_mark (slice_get (Step ∷ Return None ∷ []) k) ≡ false
marks_nothing zero = refl
marks_nothing (suc zero) = refl
marks_nothing (suc (suc k)) = refl

pub reacts_nothing : (functions : List FlatFunction) (m : Machine) (top : Frame) (below : List Frame) (left : List ℕ) (k : ℕ) → reacts functions m top below left (slice_get (Step ∷ Return None ∷ []) k) ≡ None
reacts_nothing functions m top below left zero = refl
reacts_nothing functions m top below left (suc zero) = refl
reacts_nothing functions m top below left (suc (suc k)) = refl
