-- No value has two texts, and no text two values.
use Rattle.std.proofs.Common.{◌≡◌, ⊎_elim, ℕ, zero, suc, ◌+◌, ◌-◌, ◌^◌, ◌<◌, Bool, true, false, ◌&&◌, ◌==◌, leb, if◌then◌else◌, ℤ, List, [], ◌∷◌, ◌++◌, length, take, drop, get_or, Result, Ok, Err, refl, sym, ◌∙◌, ap, subst, arith, length-append, length-take}
use Rattle.std.proofs.lemmas.List.{take_at, drop_at, take-append-drop, append-nil, nil_from_length, append_assoc, get_or-drop, get_or-take, get_or_past}
use Rattle.std.proofs.lemmas.Bool.{and_parts, and_from, leb-true, le-leb, cases_lt, true≢false, eqb-true, eq-eqb}
use Rattle.std.proofs.lemmas.Nat.{le_bytes_2, le_bytes_4, le_bytes_8, from_le_bytes-to_le_bytes_2, from_le_bytes-to_le_bytes_4, from_le_bytes-to_le_bytes_8}
use Rattle.std.specs.Int.{Width, w8, w16, w32, w64, byte_len, to_le_bytes, from_le_bytes, cast_unsigned, cast_signed, is_in_range}
use Rattle.std.proofs.lemmas.Int.{to_z-of_z, of_z-to_z}
use Rattle.std.specs.Prelude.{pos, negsuc}
use mir.Val.{SFits, bits}
use Rattle.std.proofs.lemmas.Slice.Eq.{bytes_eq-Decides}
use Rattle.std.specs.Str.{bytes_eq}
use Rattle.file_fields.specs.Forms.{Found, Form, Pair, number, is_between, signed, exactly, and_then, on_value, followed, fit_each, text_each, read_each, repeated, converted, counted, at_end, read_whole}

abbrev pub AreBytes : List ℕ → Type 0
AreBytes bytes = (i : ℕ) → get_or bytes i 0 < 256

bytes-drop : (n : ℕ) (bytes : List ℕ) → AreBytes bytes → AreBytes (drop n bytes)
bytes-drop n bytes are i = subst (λ b. b < 256) (sym (get_or-drop n bytes i 0)) (are (n + i))

bytes-take : (n : ℕ) (bytes : List ℕ) → AreBytes bytes → AreBytes (take n bytes)
bytes-take n bytes are i = ⊎_elim
    (λ lt. subst (λ b. b < 256) (sym (get_or-take n bytes i 0 lt)) (are i))
    (λ le. subst (λ b. b < 256) (sym (get_or_past (take n bytes) i 0 (omega (arith, le, length-take n bytes)))) (omega arith))
    (cases_lt i n)

-- what was read is a value with a text, and the text is what was read
abbrev pub IsFound : {A : Type 0} → Form A → List ℕ → Result (Found A) (List ℕ) → Type 0
IsFound F bytes (Err rest) = Unit {0}
IsFound F bytes (Ok found) = (F.fits found.value ≡ true) × (bytes ≡ F.text found.value ++ found.rest) × AreBytes found.rest

pub record IsForm {A : Type 0} (F : Form A) : Type 0 where
  pub again : (x : A) (rest : List ℕ) → F.fits x ≡ true → F.read (F.text x ++ rest) ≡ Ok (record { value = x; rest = rest })
  pub only : (bytes : List ℕ) → AreBytes bytes → IsFound F bytes (F.read bytes)

-- a field of k bytes
module _ {A : Type 0} (k : ℕ) (right : A → Bool) (text : A → List ℕ) (from : List ℕ → A) where
  abbrev field : Form A
  field = record {
    fits = right;
    text = text;
    read = λ bytes. if leb k (length bytes) && right (from (take k bytes)) then Ok (record { value = from (take k bytes); rest = drop k bytes }) else Err bytes;
  }

  field-again : (x : A) (rest : List ℕ) → length (text x) ≡ k → from (text x) ≡ x → right x ≡ true → field.read (text x ++ rest) ≡ Ok (record { value = x; rest = rest })
  field-again x rest size back is =
      let front : take k (text x ++ rest) ≡ text x = take_at (text x) rest k size in
      let enough : leb k (length (text x ++ rest)) ≡ true = le-leb k (length (text x ++ rest)) (omega (arith, size, length-append (text x) rest)) in
      let value : from (take k (text x ++ rest)) ≡ x = ap from front ∙ back in
      rw (enough, value, is, drop_at (text x) rest k size) refl

  field-only : ((bs : List ℕ) → length bs ≡ k → AreBytes bs → text (from bs) ≡ bs) → (bytes : List ℕ) → AreBytes bytes → IsFound field bytes (field.read bytes)
  field-only forth bytes are = elim (leb k (length bytes) && right (from (take k bytes))) as (λ t. (leb k (length bytes) && right (from (take k bytes))) ≡ t
      → IsFound field bytes (if t then Ok (record { value = from (take k bytes); rest = drop k bytes }) else Err bytes)) [
        | true ↦ λ e.
            let parts = and_parts (leb k (length bytes)) (right (from (take k bytes))) e in
            let size : length (take k bytes) ≡ k = omega (arith, length-take k bytes, leb-true k (length bytes) parts.0) in (
              parts.1,
              sym (take-append-drop k bytes) ∙ ap (λ (l : List ℕ). l ++ drop k bytes) (sym (forth (take k bytes) size (bytes-take k bytes are))),
              bytes-drop k bytes are,
            )
        | false ↦ λ e. tt
      ] refl

pub followed-form : {A B : Type 0} (F : Form A) (G : A → Form B) → IsForm F → ((x : A) → F.fits x ≡ true → IsForm (G x)) → IsForm (followed F G)
followed-form {A = A} {B = B} F G first second = record {
  again = λ p rest fits.
      let parts = and_parts (F.fits p.first) ((G p.first).fits p.second) fits in
      ap (λ l. (followed F G).read l) (append_assoc (F.text p.first) ((G p.first).text p.second) rest)
      ∙ ap (λ (r : Result (Found A) (List ℕ)). and_then r (λ x rest. on_value (λ y. record { first = x; second = y }) ((G x).read rest))) (first.again p.first ((G p.first).text p.second ++ rest) parts.0)
      ∙ ap (λ (r : Result (Found B) (List ℕ)). on_value (λ y. record { first = p.first; second = y }) r) ((second p.first parts.0).again p.second rest parts.1);
  only = λ bytes are. step bytes (F.read bytes) (first.only bytes are);
}
  where
    last : (bytes : List ℕ) (x : A) (rest : List ℕ) → F.fits x ≡ true → bytes ≡ F.text x ++ rest → (r : Result (Found B) (List ℕ)) → IsFound (G x) rest r
        → IsFound (followed F G) bytes (on_value (λ y. record { first = x; second = y }) r)
    last bytes x rest fits is (Err left) found = tt
    last bytes x rest fits is (Ok y) found = (
      and_from (F.fits x) ((G x).fits y.value) fits found.0,
      is ∙ ap (λ (l : List ℕ). F.text x ++ l) found.1 ∙ sym (append_assoc (F.text x) ((G x).text y.value) y.rest),
      found.2,
    )

    step : (bytes : List ℕ) (r : Result (Found A) (List ℕ)) → IsFound F bytes r → IsFound (followed F G) bytes (and_then r (λ x rest. on_value (λ y. record { first = x; second = y }) ((G x).read rest)))
    step bytes (Err rest) found = tt
    step bytes (Ok x) found = last bytes x.value x.rest found.0 found.1 ((G x.value).read x.rest) ((second x.value found.0).only x.rest found.2)

pub converted-form : {A B : Type 0} (to : A → B) (from : B → A) (F : Form A) → IsForm F → ((y : B) → to (from y) ≡ y) → ((x : A) → F.fits x ≡ true → from (to x) ≡ x) → IsForm (converted to from F)
converted-form {A = A} {B = B} to from F is there back = record {
  again = λ y rest fits. ap (λ (r : Result (Found A) (List ℕ)). on_value to r) (is.again (from y) rest fits) ∙ ap (λ (z : B). Ok (record { value = z; rest = rest })) (there y);
  only = λ bytes are. step bytes (F.read bytes) (is.only bytes are);
}
  where
    step : (bytes : List ℕ) (r : Result (Found A) (List ℕ)) → IsFound F bytes r → IsFound (converted to from F) bytes (on_value to r)
    step bytes (Err rest) found = tt
    step bytes (Ok x) found =
        let same : from (to x.value) ≡ x.value = back x.value found.0 in
        (ap F.fits same ∙ found.0, found.1 ∙ ap (λ a. F.text a ++ x.rest) (sym same), found.2)

module _ {A : Type 0} (F : ℕ → Form A) (is : (at : ℕ) → IsForm (F at)) where
  each-again : (n at : ℕ) (xs : List A) (rest : List ℕ) → fit_each F at n xs ≡ true → read_each F at n (text_each F at xs ++ rest) ≡ Ok (record { value = xs; rest = rest })
  each-again zero at [] rest fits = refl
  each-again zero at (x ∷ xs) rest fits = absurd (true≢false (sym fits))
  each-again (suc n) at [] rest fits = absurd (true≢false (sym fits))
  each-again (suc n) at (x ∷ xs) rest fits =
      let parts = and_parts ((F at).fits x) (fit_each F (at + 1) n xs) fits in
      ap (λ l. read_each F at (suc n) l) (append_assoc ((F at).text x) (text_each F (at + 1) xs) rest)
      ∙ ap (λ (r : Result (Found A) (List ℕ)). and_then r (λ x rest. on_value (λ xs. x ∷ xs) (read_each F (at + 1) n rest))) ((is at).again x (text_each F (at + 1) xs ++ rest) parts.0)
      ∙ ap (λ (r : Result (Found (List A)) (List ℕ)). on_value (λ xs. x ∷ xs) r) (each-again n (at + 1) xs rest parts.1)

  abbrev Each : ℕ → ℕ → Form (List A)
  Each n at = record { fits = fit_each F at n; text = text_each F at; read = read_each F at n }

  each-only : (n at : ℕ) (bytes : List ℕ) → AreBytes bytes → IsFound (Each n at) bytes (read_each F at n bytes)
  each-only zero at bytes are = (refl, refl, are)
  each-only (suc n) at bytes are = step (λ b a. each-only n (at + 1) b a) ((F at).read bytes) ((is at).only bytes are)
    where
      last : (x : A) (rest : List ℕ) → (F at).fits x ≡ true → bytes ≡ (F at).text x ++ rest → (r : Result (Found (List A)) (List ℕ)) → IsFound (Each n (at + 1)) rest r
          → IsFound (Each (suc n) at) bytes (on_value (λ xs. x ∷ xs) r)
      last x rest fits same (Err left) found = tt
      last x rest fits same (Ok xs) found = (
        and_from ((F at).fits x) (fit_each F (at + 1) n xs.value) fits found.0,
        same ∙ ap (λ (l : List ℕ). (F at).text x ++ l) found.1 ∙ sym (append_assoc ((F at).text x) (text_each F (at + 1) xs.value) xs.rest),
        found.2,
      )

      step : ((b : List ℕ) → AreBytes b → IsFound (Each n (at + 1)) b (read_each F (at + 1) n b)) → (r : Result (Found A) (List ℕ)) → IsFound (F at) bytes r
          → IsFound (Each (suc n) at) bytes (and_then r (λ x rest. on_value (λ xs. x ∷ xs) (read_each F (at + 1) n rest)))
      step others (Err rest) found = tt
      step others (Ok x) found = last x.value x.rest found.0 found.1 (read_each F (at + 1) n x.rest) (others x.rest found.2)

  pub repeated-form : (n : ℕ) → IsForm (repeated n F)
  unfolding repeated
  repeated-form n = record { again = λ xs rest fits. each-again n 0 xs rest fits; only = λ bytes are. each-only n 0 bytes are }

-- the bytes of a width's numbers
pub record IsWidth (w : Width) : Type 0 where
  pub size : (n : ℕ) → length (to_le_bytes w n) ≡ byte_len w
  pub back : (n : ℕ) → n < 2 ^ bits w → from_le_bytes w (to_le_bytes w n) ≡ n
  pub forth : (bs : List ℕ) → length bs ≡ byte_len w → AreBytes bs → to_le_bytes w (from_le_bytes w bs) ≡ bs

pub one_byte : IsWidth w8
one_byte = record { size = λ n. refl; back = λ n lt. omega (arith, lt); forth = single }
  where
    single : (bs : List ℕ) → length bs ≡ 1 → AreBytes bs → to_le_bytes w8 (from_le_bytes w8 bs) ≡ bs
    single [] size are = absurd (omega (arith, size))
    single (b ∷ []) size are = ap (λ n. n ∷ []) (let small : b < 256 = are 0 in omega (arith, small))
    single (b ∷ c ∷ bs) size are = absurd (omega (arith, size))

pub two_bytes : IsWidth w16
two_bytes = record { size = λ n. refl; back = from_le_bytes-to_le_bytes_2; forth = λ bs size are. le_bytes_2 bs (from_le_bytes w16 bs) size are refl }

pub four_bytes : IsWidth w32
four_bytes = record { size = λ n. refl; back = from_le_bytes-to_le_bytes_4; forth = λ bs size are. le_bytes_4 bs (from_le_bytes w32 bs) size are refl }

pub eight_bytes : IsWidth w64
eight_bytes = record { size = λ n. refl; back = from_le_bytes-to_le_bytes_8; forth = λ bs size are. le_bytes_8 bs (from_le_bytes w64 bs) size are refl }

pub number-form : (w : Width) (least most : ℕ) → IsWidth w → most < 2 ^ bits w → IsForm (number w least most)
unfolding number
number-form w least most is within = record {
  again = λ n rest fits. field-again (byte_len w) (is_in_range least most) (to_le_bytes w) (from_le_bytes w) n rest (is.size n)
      (is.back n (omega (arith, within, leb-true n most (and_parts (leb least n) (leb n most) fits).1))) fits;
  only = λ bytes are. field-only (byte_len w) (is_in_range least most) (to_le_bytes w) (from_le_bytes w) is.forth bytes are;
}

-- lists with their counts
fitting : {A : Type 0} (F : Form A) (at n : ℕ) (xs : List A) → fit_each (λ k. F) at n xs ≡ true → length xs ≡ n
fitting F at zero [] fits = refl
fitting F at zero (x ∷ xs) fits = absurd (true≢false (sym fits))
fitting F at (suc n) [] fits = absurd (true≢false (sym fits))
fitting F at (suc n) (x ∷ xs) fits = ap suc (fitting F (at + 1) n xs (and_parts (F.fits x) (fit_each (λ k. F) (at + 1) n xs) fits).1)

pub counted-form : {A : Type 0} (F : Form A) → IsForm F → IsForm (counted F)
unfolding counted number repeated
counted-form {A = A} F is = converted-form (λ (p : Pair ℕ (List A)). p.second) (λ xs. record { first = length xs; second = xs }) (followed (number w32 0 (2 ^ 32 - 1)) (λ n. repeated n (λ at. F)))
    (followed-form (number w32 0 (2 ^ 32 - 1)) (λ n. repeated n (λ at. F)) (number-form w32 0 (2 ^ 32 - 1) four_bytes (omega arith)) (λ n fits. repeated-form (λ at. F) (λ at. is) n))
    (λ xs. refl)
    (λ p fits. ap (λ (n : ℕ). record { first = n; second = p.second }) (fitting F 0 p.first p.second (and_parts (is_in_range 0 (2 ^ 32 - 1) p.first) (fit_each (λ k. F) 0 p.first p.second) fits).1))

pub signed-form : (least most : ℤ) → ((z : ℤ) → is_between least most z ≡ true → SFits w64 z) → IsForm (signed least most)
unfolding signed
signed-form least most within = record {
  again = λ z rest fits. field-again 8 (is_between least most) (λ z. to_le_bytes w64 (cast_unsigned w64 z)) (λ bs. cast_signed w64 (from_le_bytes w64 bs)) z rest refl
      (ap (cast_signed w64) (from_le_bytes-to_le_bytes_8 (cast_unsigned w64 z) (unsigned_below z (within z fits))) ∙ to_z-of_z w64 z (within z fits)) fits;
  only = λ bytes are. field-only 8 (is_between least most) (λ z. to_le_bytes w64 (cast_unsigned w64 z)) (λ bs. cast_signed w64 (from_le_bytes w64 bs)) forth bytes are;
}
  where
    unsigned_below : (z : ℤ) → SFits w64 z → cast_unsigned w64 z < 2 ^ 64
    unsigned_below (pos n) fits = omega (arith, fits.sfits)
    unsigned_below (negsuc n) fits = omega arith

    forth : (bs : List ℕ) → length bs ≡ 8 → AreBytes bs → to_le_bytes w64 (cast_unsigned w64 (cast_signed w64 (from_le_bytes w64 bs))) ≡ bs
    forth bs size are =
        let below : from_le_bytes w64 bs < 2 ^ 64 = omega (arith, are 0, are 1, are 2, are 3, are 4, are 5, are 6, are 7) in
        ap (to_le_bytes w64) (of_z-to_z w64 (from_le_bytes w64 bs) below) ∙ le_bytes_8 bs (from_le_bytes w64 bs) size are refl

pub exactly-form : (word : List ℕ) → IsForm (exactly word)
unfolding exactly
exactly-form word = record {
  again = λ x rest fits. let front : take (length word) (word ++ rest) ≡ word = take_at word rest (length word) refl in
      rw ((bytes_eq-Decides (take (length word) (word ++ rest)) word).1 front, drop_at word rest (length word) refl) refl;
  only = λ bytes are. elim (bytes_eq (take (length word) bytes) word) as (λ t. bytes_eq (take (length word) bytes) word ≡ t
      → IsFound (exactly word) bytes (if t then Ok (record { value = tt; rest = drop (length word) bytes }) else Err bytes)) [
        | true ↦ λ e. (
          refl,
          sym (take-append-drop (length word) bytes) ∙ ap (λ (l : List ℕ). l ++ drop (length word) bytes) ((bytes_eq-Decides (take (length word) bytes) word).0 e),
          bytes-drop (length word) bytes are,
        )
        | false ↦ λ e. tt
      ] refl;
}

-- A whole text has this value and no other; or it is no value's text.
abbrev pub IsWhole : {A : Type 0} → Form A → List ℕ → Result A ℕ → Type 0
IsWhole F bytes (Ok x) = (F.fits x ≡ true) × (bytes ≡ F.text x)
IsWhole {A = A} F bytes (Err at) = (x : A) → F.fits x ≡ true → bytes ≡ F.text x → ⊥

-- how many bytes are left behind a value, and one where there is none
abbrev left_of : {A : Type 0} → Result (Found A) (List ℕ) → ℕ
left_of (Ok found) = length found.rest
left_of (Err rest) = 1

pub whole-only : {A : Type 0} (F : Form A) → IsForm F → (bytes : List ℕ) → AreBytes bytes → IsWhole F bytes (read_whole F bytes)
whole-only {A = A} F is bytes are = step (F.read bytes) refl (is.only bytes are)
  where
    none : (r : Result (Found A) (List ℕ)) → F.read bytes ≡ r → ((x : A) → r ≡ Ok (record { value = x; rest = [] }) → ⊥) → (x : A) → F.fits x ≡ true → bytes ≡ F.text x → ⊥
    none r e other x fits same = other x (sym e ∙ ap F.read (same ∙ sym (append-nil (F.text x))) ∙ is.again x [] fits)

    step : (r : Result (Found A) (List ℕ)) → F.read bytes ≡ r → IsFound F bytes r → IsWhole F bytes (at_end (length bytes) r)
    step (Err rest) e found = none (Err rest) e (λ x wrong. let h : left_of {A = A} (Err rest) ≡ left_of {A = A} (Ok (record { value = x; rest = [] })) = ap left_of wrong in omega (arith, h))
    step (Ok found) e is_found = ends (length found.rest == 0) refl
      where
        ends : (t : Bool) → (length found.rest == 0) ≡ t → IsWhole F bytes (if t then Ok found.value else Err (length bytes - length found.rest))
        ends true nothing = (is_found.0, is_found.1 ∙ ap (λ (l : List ℕ). F.text found.value ++ l) (nil_from_length found.rest (eqb-true (length found.rest) 0 nothing)) ∙ append-nil (F.text found.value))
        ends false some = none (Ok found) e (λ x wrong. true≢false (sym (eq-eqb (length found.rest) 0 (ap left_of wrong)) ∙ some))
