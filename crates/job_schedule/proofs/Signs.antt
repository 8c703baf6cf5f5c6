-- A sign that parts a text: its first place.
use Rattle.std.proofs.Common.{◌≡◌, ℕ, suc, ◌+◌, ◌<◌, ◌≤◌, Bool, true, false, not, eqb, List, [], ◌∷◌, ◌++◌, length, take, drop, get_or, Some, None, refl, sym, ap, ◌∙◌, arith, take-append-drop, length-append}
use Rattle.std.specs.Prelude.{position}
use Rattle.std.specs.List.{list_all, position_or_len}
use Rattle.std.specs.Str.{all_ascii_digits}
use Rattle.std.proofs.lemmas.Bool.{and_parts, and_from, eqb-true, le-ltb, lt-ltb}
use Rattle.std.proofs.lemmas.Bool.Decides.{nat_tests}
use Rattle.std.proofs.lemmas.List.{drop_more, take_at}
use Rattle.std.proofs.lemmas.List.Quantifiers.{position-Some}

-- the sign isn't in the text
abbrev pub lacks : ℕ → List ℕ → Bool
lacks sign text = list_all (λ b. not (eqb b sign)) text

pub lacks_append : (sign : ℕ) (u v : List ℕ) → lacks sign u ≡ true → lacks sign v ≡ true → lacks sign (u ++ v) ≡ true
lacks_append sign [] v h k = k
lacks_append sign (b ∷ u) v h k =
    let q = and_parts (not (eqb b sign)) (lacks sign u) h in
    and_from (not (eqb b sign)) (lacks sign (u ++ v)) q.0 (lacks_append sign u v q.1 k)

-- a byte above the digits, or below them
pub record IsSign (sign : ℕ) : Type 0 where
  pub other : (b : ℕ) → 48 ≤ b → b ≤ 57 → eqb b sign ≡ false

pub digits_lack : (sign : ℕ) → IsSign sign → (ds : List ℕ) → all_ascii_digits ds ≡ true → lacks sign ds ≡ true
digits_lack sign s [] h = refl
digits_lack sign s (b ∷ ds) h =
    let low : 48 ≤ b = grind (arith, nat_tests) in
    let high : b ≤ 57 = grind (arith, nat_tests) in
    let rest : all_ascii_digits ds ≡ true = grind (arith, nat_tests) in
    rw (s.other b low high) (digits_lack sign s ds rest)

before_sign : (sign : ℕ) (u v : List ℕ) → lacks sign u ≡ true → position_or_len (λ b. eqb b sign) (u ++ sign ∷ v) ≡ length u
before_sign sign [] v h = let e : eqb sign sign ≡ true = grind (arith, nat_tests) in rw e refl
before_sign sign (b ∷ u) v h =
    let q = and_parts (not (eqb b sign)) (lacks sign u) h in
    rw (q.0, before_sign sign u v q.1) (omega arith)

pub position_is : (sign : ℕ) (u v : List ℕ) → lacks sign u ≡ true → position (λ b. eqb b sign) (u ++ sign ∷ v) ≡ Some (length u)
position_is sign u v h =
    let l : length (u ++ sign ∷ v) ≡ length u + suc (length v) = length-append u (sign ∷ v) in
    let inside : length u < length (u ++ sign ∷ v) = omega (arith, l) in
    rw (before_sign sign u v h, lt-ltb (length u) (length (u ++ sign ∷ v)) inside) refl

no_sign : (sign : ℕ) (u : List ℕ) → lacks sign u ≡ true → position_or_len (λ b. eqb b sign) u ≡ length u
no_sign sign [] h = refl
no_sign sign (b ∷ u) h =
    let q = and_parts (not (eqb b sign)) (lacks sign u) h in
    rw (q.0, no_sign sign u q.1) (omega arith)

pub position_none : (sign : ℕ) (u : List ℕ) → lacks sign u ≡ true → position (λ b. eqb b sign) u ≡ None
position_none sign u h = rw (no_sign sign u h, le-ltb (length u) (length u) (omega arith)) refl

pub parted : (sign at : ℕ) (text : List ℕ) → position (λ b. eqb b sign) text ≡ Some at → text ≡ take at text ++ sign ∷ drop (at + 1) text
parted sign at text e =
    let q = position-Some (λ b. eqb b sign) text at 0 e in
    let here : get_or text at 0 ≡ sign = eqb-true (get_or text at 0) sign q.1 in
    sym (take-append-drop at text) ∙ ap (λ l. take at text ++ l) (drop_more text at 0 q.0 ∙ ap (λ b. b ∷ drop (at + 1) text) here)

pub before_is : (sign : ℕ) (u v : List ℕ) → take (length u) (u ++ sign ∷ v) ≡ u
before_is sign u v = take_at u (sign ∷ v) (length u) refl

pub after_is : (sign : ℕ) (u v : List ℕ) → drop (length u + 1) (u ++ sign ∷ v) ≡ v
after_is sign [] v = refl
after_is sign (b ∷ u) v = let e : suc (length u) + 1 ≡ suc (length u + 1) = omega arith in rw e (after_is sign u v)
