use Rattle.std.proofs.Common.{◌≡◌, Ok, false, ap, sym, ◌∙◌, get_or}
use Rattle.c_meaning.specs.Level.{branch_of}
use Rattle.c_values.specs.Value.{value_of, is_false}
use Rattle.c_meaning.proofs.Begins.{arm_taken, none_taken}
use Rattle.c_meaning.proofs.choice.chosen.Goals as goal

pub returns-then-not-is_false : goal.returns-then-not-is_false
returns-then-not-is_false c =
    let arms = c.args.arms.now in
    let i = c.loop-arm.arm-index in
    let v = c.args.variables.now in
    let m = c.args.memory.now in
    let e : value_of (get_or arms i c.arm-item.result).test v m ≡ Ok c.in_ok-test.test = ap (λ a. value_of a.test v m) (sym c.arm-item.is) ∙ sym c.value.ensures ∙ c.in_ok-test.was in
    let z : is_false c.in_ok-test.test ≡ false = sym c.is_false.ensures ∙ c.if-not-is_false.true in
    λ otherwise. ap (λ n. Ok (branch_of arms otherwise n)) c.loop-arm.invariant.at ∙ sym (arm_taken arms i c.arm-item.result otherwise v m c.in_ok-test.test c.loop-arm-test.true e z) ∙ c.loop-arm.invariant.same otherwise

pub returns : goal.returns
returns c =
    let arms = c.args.arms.now in
    λ otherwise. ap (λ n. Ok (branch_of arms otherwise n)) c.loop-arm.invariant.at ∙ sym (none_taken arms c.loop-arm.arm-index otherwise c.args.variables.now c.args.memory.now c.loop-arm-test.false) ∙ c.loop-arm.invariant.same otherwise
