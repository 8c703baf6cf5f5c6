-- Words at the width at which places are reckoned.
use Rattle.std.proofs.Common.{◌≡◌, ◌≢◌, refl, arith, ℕ, zero, suc, ◌*◌, ◌<◌, ◌≤◌, ◌^◌, ℤ, pos, negsuc, FitsSigned, unsigned_abs, int_div, false, w64, to_z, of_z}
use Rattle.std.specs.Prelude.{◌-ℤ◌, ◌*ℤ◌}
use Rattle.std.specs.Int.{w128}
use Rattle.std.proofs.lemmas.Bool.Decides.{nat_tests}
use Rattle.std.proofs.lemmas.Int.{to_z-of_z, ints, quot_is, fits_signed_from_abs, unsigned_abs-mul}
use Rattle.std.proofs.lemmas.Nat.{mul-le}
use Rattle.c_kernel.specs.declared.types.IntegerType.TheVariants.{Long}
use Rattle.c_values.specs.Value.{is_zero, checked, divided}
use Rattle.c_values.proofs.Numbers.{abs_long, abs_quotient, wide_long}

wide_pos : (k : ℕ) → k < 2 ^ 32 → FitsSigned w128 (pos k)
wide_pos k l = fits_signed_from_abs w128 (pos k) (omega (arith, l))

product_near : (n : ℤ) (k : ℕ) → FitsSigned w64 n → k < 2 ^ 32 → unsigned_abs (n *ℤ pos k) ≤ 2 ^ 95
product_near n k f l =
    let e : unsigned_abs (n *ℤ pos k) ≡ unsigned_abs n * k = unsigned_abs-mul n (pos k) in
    let m : unsigned_abs n * k ≤ 2 ^ 63 * 2 ^ 32 = mul-le (unsigned_abs n) k (2 ^ 63) (2 ^ 32) (abs_long n f) (omega (arith, l)) in
    omega (arith, e, m)

near_wide : (x : ℤ) → unsigned_abs x ≤ 2 ^ 95 → FitsSigned w128 x
near_wide x l = fits_signed_from_abs w128 x (omega (arith, l))

minus_wide : (p x : ℤ) → FitsSigned w64 p → unsigned_abs x ≤ 2 ^ 95 → FitsSigned w128 (p -ℤ x)
minus_wide (pos p) (pos x) f l = omega (arith, ints, f, l)
minus_wide (pos p) (negsuc x) f l = omega (arith, ints, f, l)
minus_wide (negsuc p) (pos x) f l = omega (arith, ints, f, l)
minus_wide (negsuc p) (negsuc x) f l = omega (arith, ints, f, l)

-- a place that goes back
pub stepped_back : (place n : ℤ) (k : ℕ) (a b c : ℤ) → FitsSigned w64 place → FitsSigned w64 n → k < 2 ^ 32 → a ≡ to_z w64 (of_z w64 place) → b ≡ to_z w64 (of_z w64 n) → c ≡ pos k →
    to_z w128 (of_z w128 (to_z w128 (of_z w128 a) -ℤ to_z w128 (of_z w128 (to_z w128 (of_z w128 b) *ℤ to_z w128 (of_z w128 c))))) ≡ place -ℤ (n *ℤ pos k)
stepped_back place n k a b c f g l d e h =
    let near : unsigned_abs (n *ℤ pos k) ≤ 2 ^ 95 = product_near n k g l in
    rw (d, e, h, to_z-of_z w64 place f, to_z-of_z w64 n g, to_z-of_z w128 place (wide_long place f), to_z-of_z w128 n (wide_long n g), to_z-of_z w128 (pos k) (wide_pos k l), to_z-of_z w128 (n *ℤ pos k) (near_wide (n *ℤ pos k) near))
    (to_z-of_z w128 (place -ℤ (n *ℤ pos k)) (minus_wide place (n *ℤ pos k) f near))

some_zero : (k : ℕ) → k ≢ 0 → is_zero (pos k) ≡ false
some_zero zero h = absurd (h refl)
some_zero (suc k) h = grind (arith, nat_tests)

difference_near : (a b : ℤ) → FitsSigned w64 a → FitsSigned w64 b → unsigned_abs (a -ℤ b) ≤ 2 ^ 95
difference_near (pos a) (pos b) f g = omega (arith, ints, f, g)
difference_near (pos a) (negsuc b) f g = omega (arith, ints, f, g)
difference_near (negsuc a) (pos b) f g = omega (arith, ints, f, g)
difference_near (negsuc a) (negsuc b) f g = omega (arith, ints, f, g)

-- how many elements stand between two places
pub elements_is : (a b : ℤ) (k : ℕ) (x y z : ℤ) → FitsSigned w64 a → FitsSigned w64 b → k < 2 ^ 32 → k ≢ 0 → x ≡ to_z w64 (of_z w64 a) → y ≡ to_z w64 (of_z w64 b) → z ≡ pos k →
    checked Long (to_z w128 (of_z w128 (int_div (to_z w128 (of_z w128 (to_z w128 (of_z w128 x) -ℤ to_z w128 (of_z w128 y)))) (to_z w128 (of_z w128 z))))) ≡ divided Long int_div (a -ℤ b) (pos k)
elements_is a b k x y z f g l o d e h =
    let near : unsigned_abs (a -ℤ b) ≤ 2 ^ 95 = difference_near a b f g in
    let q : unsigned_abs (int_div (a -ℤ b) (pos k)) ≤ unsigned_abs (a -ℤ b) = abs_quotient (a -ℤ b) (pos k) in
    rw (
      d,
      e,
      h,
      to_z-of_z w64 a f,
      to_z-of_z w64 b g,
      to_z-of_z w128 a (wide_long a f),
      to_z-of_z w128 b (wide_long b g),
      some_zero k o,
      quot_is w128 (a -ℤ b) (pos k) (near_wide (a -ℤ b) near) (wide_pos k l) (near_wide (int_div (a -ℤ b) (pos k)) (omega (arith, near, q))),
    ) refl
