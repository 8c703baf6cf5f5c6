-- How values are written as bytes, field behind field.
use Rattle.std.specs.Prelude.{ℕ, zero, suc, ◌+◌, ◌-◌, ◌^◌, Bool, true, false, ◌&&◌, ◌==◌, leb, if◌then◌else◌, ℤ, List, [], ◌∷◌, ◌++◌, length, take, drop, Result, Ok, Err, int_le}
use Rattle.std.specs.Int.{Width, w32, w64, byte_len, to_le_bytes, from_le_bytes, cast_signed, cast_unsigned, is_in_range}
use Rattle.std.specs.Str.{bytes_eq}

-- a value that a text's front has, and what is left behind it
pub record Found (A : Type 0) : Type 0 where
  pub value : A
  pub rest : List ℕ

-- A form of text. It says which values have a text, which text that is, and what the front of a text comes to: a value, or what is
-- left from the first field on that isn't right or isn't whole.
pub record Form (A : Type 0) : Type 0 where
  pub fits : A → Bool
  pub text : A → List ℕ
  pub read : List ℕ → Result (Found A) (List ℕ)

pub record Pair (A B : Type 0) : Type 0 where
  pub first : A
  pub second : B

-- these bytes and no others
unfoldable pub exactly : List ℕ → Form (Unit {0})
exactly word = record {
  fits = λ _. true;
  text = λ _. word;
  read = λ bytes. if bytes_eq (take (length word) bytes) word then Ok (record { value = tt; rest = drop (length word) bytes }) else Err bytes;
}

-- a number from least to most, the lowest byte first
unfoldable pub number : Width → ℕ → ℕ → Form ℕ
number w least most = record {
  fits = is_in_range least most;
  text = to_le_bytes w;
  read = λ bytes. if leb (byte_len w) (length bytes) && is_in_range least most (from_le_bytes w (take (byte_len w) bytes))
      then Ok (record { value = from_le_bytes w (take (byte_len w) bytes); rest = drop (byte_len w) bytes }) else Err bytes;
}

-- a number of 64 bits with its sign, in two's complement
abbrev pub is_between : ℤ → ℤ → ℤ → Bool
is_between least most z = int_le least z && int_le z most

unfoldable pub signed : ℤ → ℤ → Form ℤ
signed least most = record {
  fits = is_between least most;
  text = λ z. to_le_bytes w64 (cast_unsigned w64 z);
  read = λ bytes. if leb 8 (length bytes) && is_between least most (cast_signed w64 (from_le_bytes w64 (take 8 bytes)))
      then Ok (record { value = cast_signed w64 (from_le_bytes w64 (take 8 bytes)); rest = drop 8 bytes }) else Err bytes;
}

abbrev pub and_then : {A B : Type 0} → Result (Found A) (List ℕ) → (A → List ℕ → Result (Found B) (List ℕ)) → Result (Found B) (List ℕ)
and_then (Ok found) next = next found.value found.rest
and_then (Err rest) next = Err rest

abbrev pub on_value : {A B : Type 0} → (A → B) → Result (Found A) (List ℕ) → Result (Found B) (List ℕ)
on_value f (Ok found) = Ok (record { value = f found.value; rest = found.rest })
on_value f (Err rest) = Err rest

-- a value, and behind it another, whose form may rest on the first
abbrev pub followed : {A B : Type 0} → Form A → (A → Form B) → Form (Pair A B)
followed {A = A} {B = B} F G = record {
  fits = λ p. F.fits p.first && (G p.first).fits p.second;
  text = λ p. F.text p.first ++ (G p.first).text p.second;
  read = λ bytes. and_then (F.read bytes) (λ x rest. on_value (λ y. record { first = x; second = y }) ((G x).read rest));
}

-- so many values, each in the form for its place
abbrev pub fit_each : {A : Type 0} → (ℕ → Form A) → ℕ → ℕ → List A → Bool
fit_each F at zero [] = true
fit_each F at zero (x ∷ xs) = false
fit_each F at (suc n) [] = false
fit_each F at (suc n) (x ∷ xs) = (F at).fits x && fit_each F (at + 1) n xs

abbrev pub text_each : {A : Type 0} → (ℕ → Form A) → ℕ → List A → List ℕ
text_each F at [] = []
text_each F at (x ∷ xs) = (F at).text x ++ text_each F (at + 1) xs

abbrev pub read_each : {A : Type 0} → (ℕ → Form A) → ℕ → ℕ → List ℕ → Result (Found (List A)) (List ℕ)
read_each F at zero bytes = Ok (record { value = []; rest = bytes })
read_each F at (suc n) bytes = and_then ((F at).read bytes) (λ x rest. on_value (λ xs. x ∷ xs) (read_each F (at + 1) n rest))

unfoldable pub repeated : {A : Type 0} → ℕ → (ℕ → Form A) → Form (List A)
repeated n F = record { fits = fit_each F 0 n; text = text_each F 0; read = read_each F 0 n }

-- a value of another type by the one that is written
abbrev pub converted : {A B : Type 0} → (A → B) → (B → A) → Form A → Form B
converted to from F = record {
  fits = λ y. F.fits (from y);
  text = λ y. F.text (from y);
  read = λ bytes. on_value to (F.read bytes);
}

-- a count, and then so many values
unfoldable pub counted : {A : Type 0} → Form A → Form (List A)
counted F = converted (λ p. p.second) (λ xs. record { first = length xs; second = xs }) (followed (number w32 0 (2 ^ 32 - 1)) (λ n. repeated n (λ at. F)))

-- What a whole text comes to: its value, or the place of the first field that isn't right or isn't whole, or of what follows the last.
abbrev pub at_end : {A : Type 0} → ℕ → Result (Found A) (List ℕ) → Result A ℕ
at_end size (Err rest) = Err (size - length rest)
at_end size (Ok found) = if length found.rest == 0 then Ok found.value else Err (size - length found.rest)

abbrev pub read_whole : {A : Type 0} → Form A → List ℕ → Result A ℕ
read_whole F bytes = at_end (length bytes) (F.read bytes)
