-- Numbers of the integer types.
use Rattle.std.proofs.Common.{◌≡◌, ◌∙◌, ap, sym, refl, subst, arith, ℕ, ◌<◌, ◌^◌, ℤ, pos, negsuc, FitsSigned, unsigned_abs, neg_ℤ, int_div, int_rem, zero, suc, ◌≤◌, ◌≢◌, ◌/◌, Bool, true, false, Result, Ok, Err, w8, w32, w64, to_z, of_z}
use Rattle.std.proofs.lemmas.Int.{to_z-of_z, ints, SFits-int_wrap, quot_is, rem_is, fits_signed_from_abs}
use Rattle.std.proofs.lemmas.Bool.Decides.{nat_tests}
use Rattle.std.proofs.Math.Nat.{div-le_self}
use Rattle.c3_base.specs.declared.cell.Cell.{Cell}
use Rattle.c_kernel.specs.declared.types.IntegerType.{IntegerType}
use Rattle.c_memory.specs.Memory.{number}
use mir.Val.{bits}
use Rattle.std.specs.Int.{Width, w128, int_wrap, int_rem_euclid}
use Rattle.c_kernel.specs.declared.types.IntegerType.TheVariants.{Char, Int}
use Rattle.c_values.specs.Value.{narrowed, fits, checked, is_zero, divided}

wide_char : (z : ℤ) → FitsSigned w8 z → FitsSigned w64 z
wide_char z f = omega (arith, ints, f)

wide_int : (z : ℤ) → FitsSigned w32 z → FitsSigned w64 z
wide_int z f = omega (arith, ints, f)

-- a narrowed number that goes through the bits of both widths
kept : (w : Width) (n m : ℤ) → m ≡ int_wrap w n → (FitsSigned w m → FitsSigned w64 m) → to_z w64 (of_z w64 (to_z w (of_z w m))) ≡ int_wrap w n
kept w n m e wide =
    let f : FitsSigned w m = subst (FitsSigned w) (sym e) (SFits-int_wrap w n) in
    ap (λ k. to_z w64 (of_z w64 k)) (to_z-of_z w m f) ∙ to_z-of_z w64 m (wide f) ∙ e

wrapped : (w : Width) (n r m d : ℤ) → FitsSigned w64 n → FitsSigned w64 r → d ≡ pos (2 ^ bits w) → r ≡ int_rem_euclid (to_z w64 (of_z w64 n)) d → m ≡ to_z w (unsigned_abs (to_z w64 (of_z w64 r))) → m ≡ int_wrap w n
unfolding int_wrap
wrapped w n r m d f g i e h =
    let a : r ≡ int_rem_euclid n (pos (2 ^ bits w)) = e ∙ ap (λ k. int_rem_euclid k d) (to_z-of_z w64 n f) ∙ ap (int_rem_euclid n) i in
    h ∙ ap (λ k. to_z w (unsigned_abs k)) (to_z-of_z w64 r g ∙ a)

pub narrowed_char : (n r m : ℤ) → FitsSigned w64 n → FitsSigned w64 r → r ≡ int_rem_euclid (to_z w64 (of_z w64 n)) (pos 256) → m ≡ to_z w8 (unsigned_abs (to_z w64 (of_z w64 r))) → to_z w64 (of_z w64 (to_z w8 (of_z w8 m))) ≡ narrowed Char n
narrowed_char n r m f g e h = kept w8 n m (wrapped w8 n r m (pos 256) f g refl e h) (wide_char m)

pub narrowed_int : (n r m : ℤ) → FitsSigned w64 n → FitsSigned w64 r → r ≡ int_rem_euclid (to_z w64 (of_z w64 n)) (pos 4294967296) → m ≡ to_z w32 (unsigned_abs (to_z w64 (of_z w64 r))) → to_z w64 (of_z w64 (to_z w32 (of_z w32 m))) ≡ narrowed Int n
narrowed_int n r m f g e h = kept w32 n m (wrapped w32 n r m (pos 4294967296) f g refl e h) (wide_int m)

-- ---- quotients

abs_minus : (n : ℕ) → unsigned_abs (neg_ℤ (pos n)) ≡ n
abs_minus zero = refl
abs_minus (suc n) = refl

pub abs_quotient : (a b : ℤ) → unsigned_abs (int_div a b) ≤ unsigned_abs a
abs_quotient (pos a) (pos b) = div-le_self a b
abs_quotient (pos a) (negsuc b) = rw (abs_minus (a / suc b)) (div-le_self a (suc b))
abs_quotient (negsuc a) (pos b) = rw (abs_minus (suc a / b)) (div-le_self (suc a) b)
abs_quotient (negsuc a) (negsuc b) = div-le_self (suc a) (suc b)

pub abs_long : (a : ℤ) → FitsSigned w64 a → unsigned_abs a ≤ 2 ^ 63
abs_long (pos n) f = let l : n < 2 ^ 63 = f.sfits in omega (arith, l)
abs_long (negsuc n) f = let l : n < 2 ^ 63 = f.sfits in omega (arith, l)

pub wide_long : (z : ℤ) → FitsSigned w64 z → FitsSigned w128 z
wide_long z f = omega (arith, ints, f)

quotient_fits : (a b : ℤ) → FitsSigned w64 a → FitsSigned w128 (int_div a b)
quotient_fits a b f = fits_signed_from_abs w128 (int_div a b) (let q : unsigned_abs (int_div a b) ≤ unsigned_abs a = abs_quotient a b in let l : unsigned_abs a ≤ 2 ^ 63 = abs_long a f in omega (arith, q, l))

-- the quotient at the greater width
quotient_is : (a b : ℤ) → FitsSigned w64 a → FitsSigned w64 b → to_z w128 (of_z w128 (int_div (to_z w128 (of_z w128 (to_z w64 (of_z w64 a)))) (to_z w128 (of_z w128 (to_z w64 (of_z w64 b)))))) ≡ int_div a b
quotient_is a b f g = rw (to_z-of_z w64 a f, to_z-of_z w64 b g) (quot_is w128 a b (wide_long a f) (wide_long b g) (quotient_fits a b f))

not_zero : (b : ℤ) → (of_z w64 b ≢ 0) → is_zero b ≡ false
not_zero (pos zero) h = absurd (h refl)
not_zero (pos (suc n)) h = grind (arith, nat_tests)
not_zero (negsuc n) h = refl

-- a quotient by a divisor that isn't 0, tested at the greater width
pub quotient_checked : (kind : IntegerType) (a b : ℤ) (r : Result Cell ℕ) → FitsSigned w64 a → FitsSigned w64 b → (of_z w64 b ≢ 0) → r ≡ checked kind (to_z w128 (of_z w128 (int_div (to_z w128 (of_z w128 (to_z w64 (of_z w64 a)))) (to_z w128 (of_z w128 (to_z w64 (of_z w64 b))))))) → r ≡ divided kind int_div a b
quotient_checked kind a b r f g h e = e ∙ ap (checked kind) (quotient_is a b f g) ∙ rw (not_zero b h) refl

-- a quotient that doesn't fit has no remainder
pub no_remainder : (kind : IntegerType) (a b : ℤ) (t : Bool) → FitsSigned w64 a → FitsSigned w64 b → (of_z w64 b ≢ 0) → t ≡ fits kind (to_z w128 (of_z w128 (int_div (to_z w128 (of_z w128 (to_z w64 (of_z w64 a)))) (to_z w128 (of_z w128 (to_z w64 (of_z w64 b))))))) → t ≡ false → ◌≡◌ {A = Result Cell ℕ} (Err 105) (divided kind int_rem a b)
no_remainder kind a b t f g h e bad =
    let q : fits kind (int_div a b) ≡ false = ap (fits kind) (sym (quotient_is a b f g)) ∙ sym e ∙ bad in
    rw (not_zero b h, q) refl

-- the remainder of a quotient that fits
pub remainder_is : (kind : IntegerType) (a b : ℤ) (c : Cell) (t : Bool) → FitsSigned w64 a → FitsSigned w64 b → (of_z w64 b ≢ 0) → t ≡ fits kind (to_z w128 (of_z w128 (int_div (to_z w128 (of_z w128 (to_z w64 (of_z w64 a)))) (to_z w128 (of_z w128 (to_z w64 (of_z w64 b))))))) → t ≡ true → c ≡ number (to_z w64 (of_z w64 (int_rem (to_z w64 (of_z w64 a)) (to_z w64 (of_z w64 b))))) → Ok c ≡ divided kind int_rem a b
remainder_is kind a b c t f g h e good r =
    let q : fits kind (int_div a b) ≡ true = ap (fits kind) (sym (quotient_is a b f g)) ∙ sym e ∙ good in
    rw (not_zero b h, q) (ap Ok (r ∙ ap number (rem_is w64 a b f g)))
