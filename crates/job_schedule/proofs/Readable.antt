-- A number is read exactly where the text is one.
use Rattle.std.proofs.Common.{◌≡◌, ℕ, suc, zero, ◌^◌, ◌<◌, ◌≤◌, ◌⊎◌, inl, inr, Bool, true, false, List, length, get_or, Some, refl, sym, ap, ◌∙◌, arith}
use Rattle.std.specs.Fmt.{decimal}
use Rattle.std.specs.Str.{all_ascii_digits}
use Rattle.std.specs.Str.Parse.{digits_value}
use Rattle.std.proofs.lemmas.Bool.Decides.{nat_tests}
use Rattle.std.proofs.lemmas.Fmt.{decimal_digit, decimal_nonempty, digits_decimal, digits_value-decimal, decimal-digits_value, first_decimal, length-decimal-le}
use Rattle.std.proofs.lemmas.Option.{none-some, same_Some}
use Rattle.std.proofs.lemmas.Str.Parse.{IsNumeralModel, digits_value_short, numerals_by_value, tells_all_ascii_digits}
use Rattle.job_schedule.specs.Reading.{is_short, number_of}
use Rattle.job_schedule.specs.Words.{IsNumber}

own : IsNumeralModel (λ ds. all_ascii_digits ds ≡ true) (digits_value 10)
own = numerals_by_value (λ ds. all_ascii_digits ds ≡ true) tells_all_ascii_digits

record IsShort (ds : List ℕ) : Type 0 where
  some : 0 < length ds
  few : length ds ≤ 9
  first : get_or ds 0 0 ≡ 48 → length ds ≡ 1

short_parts : (ds : List ℕ) → is_short ds ≡ true → IsShort ds
short_parts ds h = record { some = grind (arith, nat_tests); few = grind (arith, nat_tests); first = λ e. grind (arith, nat_tests) }

short_from : (ds : List ℕ) → 0 < length ds → length ds ≤ 9 → (length ds ≡ 1) ⊎ (48 < get_or ds 0 0) → is_short ds ≡ true
short_from ds some few (inl one) = grind (arith, nat_tests)
short_from ds some few (inr first) = grind (arith, nat_tests)

sound_at : (ds : List ℕ) (n : ℕ) (s d : Bool) → is_short ds ≡ s → all_ascii_digits ds ≡ d → number_of ds ≡ Some n → IsNumber ds n
sound_at ds n true true s d e =
    let short = short_parts ds s in
    let small : digits_value 10 ds < 10 ^ 9 = digits_value_short own ds 9 d short.few in
    let value : digits_value 10 ds ≡ n = same_Some (digits_value 10 ds) n (rw (s, d, number_of) at e) in
    record { digits = sym (decimal-digits_value own ds d short.some short.first (omega arith)) ∙ ap decimal value; most = omega arith }
sound_at ds n true false s d e = absurd (none-some n (rw (s, d, number_of) at e))
sound_at ds n false d s f e = absurd (none-some n (rw (s, number_of) at e))

pub number_sound : (ds : List ℕ) (n : ℕ) → number_of ds ≡ Some n → IsNumber ds n
number_sound ds n e = sound_at ds n (is_short ds) (all_ascii_digits ds) refl refl e

first_byte : (n : ℕ) → n < 10 ^ 9 → (length (decimal n) ≡ 1) ⊎ (48 < get_or (decimal n) 0 0)
first_byte zero h = inl (ap length (decimal_digit 0 (omega arith)))
first_byte (suc n) h = inr (first_decimal (suc n) (omega arith) (omega arith))

decimal_read : (n : ℕ) → n < 10 ^ 9 → number_of (decimal n) ≡ Some n
decimal_read n h =
    let small : n < 2 ^ 64 = omega arith in
    let short : is_short (decimal n) ≡ true = short_from (decimal n) (decimal_nonempty n small) (length-decimal-le 9 n (omega arith) h small) (first_byte n h) in
    let digits : all_ascii_digits (decimal n) ≡ true = digits_decimal own n small in
    let value : digits_value 10 (decimal n) ≡ n = digits_value-decimal own n small in
    rw (short, digits, value, number_of) refl

pub number_complete : (ds : List ℕ) (n : ℕ) → IsNumber ds n → number_of ds ≡ Some n
number_complete ds n h = ap number_of h.digits ∙ decimal_read n h.most

pub number_digits : (ds : List ℕ) (n : ℕ) → IsNumber ds n → all_ascii_digits ds ≡ true
number_digits ds n h = rw h.digits (digits_decimal own n (omega (arith, h.most)))
