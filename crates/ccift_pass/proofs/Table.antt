-- A table of targets says where each place moves.
use Rattle.std.proofs.Common.{◌≡◌, ℕ, zero, suc, ◌+◌, ◌-◌, List, [], ◌∷◌, ◌++◌, length, refl, ap, ◌∙◌, arith}
use Rattle.std.specs.Prelude.{min, get_or}
use Rattle.flat_code.specs.declared.code.Instr.{Instr}
use Rattle.ccift_pass.specs.Passed.{width, widths, moved, target_in, later_targets, table, all_passed}

found : (place : ℕ) (code : List Instr) (p : ℕ) → target_in (place ∷ later_targets place code) p ≡ place + widths code p
found place [] zero = omega arith
found place [] (suc p) =
    let at : min (suc p) (length (place ∷ []) - 1) ≡ 0 = omega arith in
    ap (λ k. get_or (place ∷ []) k 0) at ∙ omega arith
found place (i ∷ is) zero =
    let rest = (place + width i) ∷ later_targets (place + width i) is in
    let at : min 0 (length (place ∷ rest) - 1) ≡ 0 = omega arith in
    ap (λ k. get_or (place ∷ rest) k 0) at ∙ omega arith
found place (i ∷ is) (suc p) =
    let next = place + width i in
    let rest = next ∷ later_targets next is in
    let at : min (suc p) (suc (length rest) - 1) ≡ suc (min p (length rest - 1)) = omega arith in
    ap (λ k. get_or (place ∷ rest) k 0) at ∙ found next is p ∙ omega arith

targets_are : (code : List Instr) → target_in (table code) ≡ moved code
targets_are code = λ i p. found 1 code p i

pub table_moves : (targets : List ℕ) (code made old : List Instr) (first : ℕ) → targets ≡ table code → made ≡ old ++ all_passed (target_in targets) first code → made ≡ old ++ all_passed (moved code) first code
table_moves targets code made old first t h = h ∙ ap (λ ts. old ++ all_passed (target_in ts) first code) t ∙ ap (λ to. old ++ all_passed to first code) (targets_are code)
