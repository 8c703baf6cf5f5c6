-- The code of the arms of an if, one after the other.
use Rattle.std.proofs.Common.{◌≡◌, ◌∙◌, ℕ, ◌+◌, List, [], ◌∷◌, ◌++◌, append_assoc}
use Rattle.c_kernel.specs.declared.program.Arm.{Arm}
use Rattle.flat_code.specs.declared.code.Instr.{Instr}
use Rattle.flat_code.specs.declared.code.Instr.TheVariants.{Unless}
use Rattle.ccift_lower.specs.Lowered.{Lowering, sizes, codes, jump, jump_size, arms_code}

-- an arm, and then what follows it
pub arm_more : (code : List Instr) (a : Arm Lowering) (arms : List (Arm Lowering)) (ls : List Lowering) (at end leave again : ℕ) →
    (((code ++ Unless a.test (at + 1 + sizes a.body + jump_size arms ls) ∷ []) ++ codes a.body (at + 1) leave again) ++ jump arms ls end) ++ arms_code arms ls (at + 1 + sizes a.body + jump_size arms ls) end leave again
    ≡ code ++ arms_code (a ∷ arms) ls at end leave again
arm_more code a arms ls at end leave again =
    let next = at + 1 + sizes a.body + jump_size arms ls in
    let body = codes a.body (at + 1) leave again in
    let rest = arms_code arms ls next end leave again in
    append_assoc ((code ++ Unless a.test next ∷ []) ++ body) (jump arms ls end) rest
    ∙ append_assoc (code ++ Unless a.test next ∷ []) body (jump arms ls end ++ rest)
    ∙ append_assoc code (Unless a.test next ∷ []) (body ++ (jump arms ls end ++ rest))
