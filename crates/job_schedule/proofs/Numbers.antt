-- Facts on numbers and their digits.
use Rattle.std.proofs.Common.{◌≡◌, ℕ, suc, ◌+◌, ◌*◌, ◌-◌, ◌^◌, ◌<◌, ◌≤◌, true, List, length, take, drop, get_or, refl, sym, ap, ◌∙◌, arith}
use Rattle.std.specs.Char.{digit_value, is_ascii_digit}
use Rattle.std.specs.Str.{all_ascii_digits}
use Rattle.std.specs.Str.Parse.{digits_value}
use Rattle.std.proofs.Math.Nat.{pow-le-pow_right, pow-suc}
use Rattle.std.proofs.lemmas.Bool.Decides.{nat_tests}
use Rattle.std.proofs.lemmas.Int.Digits.{digits_value_more}
use Rattle.std.proofs.lemmas.List.{drop_more}

-- a number of fewer than nine digits has room for one more
pub has_room : (i v : ℕ) → i < 9 → v < 10 ^ i → v < 100000000
has_room i v h s = let p : 10 ^ i ≤ 10 ^ 8 = pow-le-pow_right {n = 10} (omega arith) {i = i} {j = 8} (omega arith) in omega (arith, p)

pub one_digit_more : (i v d : ℕ) → v < 10 ^ i → d < 10 → v * 10 + d < 10 ^ (i + 1)
one_digit_more i v d s h =
    let e : i + 1 ≡ suc i = omega arith in
    let p : 10 ^ (i + 1) ≡ 10 ^ i * 10 = ap (λ k. 10 ^ k) e ∙ pow-suc 10 i in
    omega (arith, p)

pub digit_value_is : (c : ℕ) → is_ascii_digit c ≡ true → (digit_value c ≡ c - 48) × (c - 48 < 10)
digit_value_is c e = (grind (arith, nat_tests), grind (arith, nat_tests))

pub value_more : (ds : List ℕ) (i v : ℕ) → i < length ds → v ≡ digits_value 10 (take i ds) → is_ascii_digit (get_or ds i 0) ≡ true → v * 10 + (get_or ds i 0 - 48) ≡ digits_value 10 (take (i + 1) ds)
value_more ds i v h e d = rw (e, sym (digit_value_is (get_or ds i 0) d).0) (sym (digits_value_more 10 ds i h))

pub digits_more : (ds : List ℕ) (i : ℕ) → i < length ds → is_ascii_digit (get_or ds i 0) ≡ true → all_ascii_digits (drop i ds) ≡ all_ascii_digits (drop (i + 1) ds)
digits_more ds i h d = ap all_ascii_digits (drop_more ds i 0 h) ∙ rw d refl
