-- The exit code.
use Rattle.std.proofs.Common.{◌≡◌, ◌∙◌, ap, sym, arith, ℤ, pos, FitsSigned, unsigned_abs, w32, w64, to_z, of_z}
use Rattle.std.proofs.lemmas.Int.{to_z-of_z, ints}
use Rattle.std.specs.Int.{int_rem_euclid}
use Rattle.c_kernel.specs.declared.types.IntegerType.TheVariants.{Int}
use Rattle.c_values.specs.Value.{narrowed}
use Rattle.c_values.proofs.Numbers.{narrowed_int}

wide : (z : ℤ) → FitsSigned w32 z → FitsSigned w64 z
wide z f = omega (arith, ints, f)

pub exit_code : (n r m : ℤ) → FitsSigned w64 n → FitsSigned w64 r → FitsSigned w32 m → r ≡ int_rem_euclid (to_z w64 (of_z w64 n)) (pos 4294967296) → m ≡ to_z w32 (unsigned_abs (to_z w64 (of_z w64 r))) → to_z w32 (of_z w32 m) ≡ narrowed Int n
exit_code n r m f g k e h = to_z-of_z w32 m k ∙ sym (ap (λ i. to_z w64 (of_z w64 i)) (to_z-of_z w32 m k) ∙ to_z-of_z w64 m (wide m k)) ∙ narrowed_int n r m f g e h
