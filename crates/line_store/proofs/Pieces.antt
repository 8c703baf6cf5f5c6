-- Numbers that were read, and bytes that are read piece by piece.
use Rattle.std.proofs.Common.{◌≡◌, ℕ, zero, suc, ◌+◌, ◌<◌, ◌≤◌, Bool, true, false, ◌&&◌, leb, if◌then◌else◌, List, [], ◌∷◌, ◌++◌, length, take, drop, Result, Ok, Err, refl, sym, ◌∙◌, ap, arith, length-append}
use Rattle.std.proofs.lemmas.Bool.{and_parts, leb-true}
use Rattle.std.proofs.lemmas.List.{append_assoc, append-nil, drop_all, length-take-le}
use Rattle.std.specs.Int.{Width, byte_len, from_le_bytes, is_in_range}
use Rattle.file_fields.specs.Forms.{Found, number}

abbrev value_of : ℕ → Result (Found ℕ) (List ℕ) → ℕ
value_of d (Ok found) = found.value
value_of d (Err rest) = d

-- a number that was read is at most this
pub read-most : (w : Width) (least most n : ℕ) (bytes rest : List ℕ) → (number w least most).read bytes ≡ Ok (record { value = n; rest = rest }) → n ≤ most
unfolding number
read-most w least most n bytes rest is = by_test (leb (byte_len w) (length bytes) && is_in_range least most (from_le_bytes w (take (byte_len w) bytes))) refl is
  where
    found : Result (Found ℕ) (List ℕ)
    found = Ok (record { value = from_le_bytes w (take (byte_len w) bytes); rest = drop (byte_len w) bytes })

    was_ok : Result (Found ℕ) (List ℕ) → ℕ
    was_ok (Ok r) = 1
    was_ok (Err left) = 0

    by_test : (t : Bool) → (leb (byte_len w) (length bytes) && is_in_range least most (from_le_bytes w (take (byte_len w) bytes))) ≡ t → (if t then found else Err bytes) ≡ Ok (record { value = n; rest = rest }) → n ≤ most
    by_test true e is =
        let value = from_le_bytes w (take (byte_len w) bytes) in
        let same : value ≡ n = ap (value_of 0) is in
        let fits = (and_parts (leb (byte_len w) (length bytes)) (leb least value && leb value most) e).1 in
        omega (arith, same, leb-true value most (and_parts (leb least value) (leb value most) fits).1)
    by_test false e is = let wrong : 0 ≡ 1 = ap was_ok is in absurd (omega (arith, wrong))

-- the front that a read gives, and what is behind it
front : (m : ℕ) (r : List ℕ) → take m r ++ drop (length (take m r)) r ≡ r
front zero r = refl
front (suc m) [] = refl
front (suc m) (x ∷ r) = ap (λ (l : List ℕ). x ∷ l) (front m r)

drop_more : (a b : ℕ) (s : List ℕ) → drop (a + b) s ≡ drop b (drop a s)
drop_more zero b s = let e : 0 + b ≡ b = omega arith in ap (λ n. drop n s) e
drop_more (suc a) b [] = let e : suc a + b ≡ suc (a + b) = omega arith in rw e (sym (drop_all b [] (omega arith)))
drop_more (suc a) b (x ∷ s) = let e : suc a + b ≡ suc (a + b) = omega arith in rw e (drop_more a b s)

-- These are the first bytes of the file.
abbrev pub IsFront : List ℕ → List ℕ → Type 0
IsFront items all = items ++ drop (length items) all ≡ all

pub more-read : (items piece new all : List ℕ) (m : ℕ) → IsFront items all → piece ≡ take m (drop (length items) all) → new ≡ items ++ piece → IsFront new all
more-read items piece new all m so_far is put =
    let rest = drop (length items) all in
    ap (λ (l : List ℕ). l ++ drop (length l) all) put
    ∙ ap (λ n. (items ++ piece) ++ drop n all) (length-append items piece)
    ∙ ap (λ (l : List ℕ). (items ++ piece) ++ l) (drop_more (length items) (length piece) all)
    ∙ append_assoc items piece (drop (length piece) rest)
    ∙ ap (λ (l : List ℕ). items ++ (l ++ drop (length l) rest)) is
    ∙ ap (λ (l : List ℕ). items ++ l) (front m rest)
    ∙ so_far

pub all-read : (items all : List ℕ) (m : ℕ) → 0 < m → IsFront items all → [] ≡ take m (drop (length items) all) → items ≡ all
all-read items all zero pos so_far none = absurd (omega (arith, pos))
all-read items all (suc m) pos so_far none = sym (append-nil items) ∙ ap (λ (l : List ℕ). items ++ l) (sym (nothing (drop (length items) all) none)) ∙ so_far
  where
    nothing : (r : List ℕ) → [] ≡ take (suc m) r → r ≡ []
    nothing [] e = refl
    nothing (x ∷ r) e = absurd (omega (arith, ap length e))

pub taken : (count : ℕ) (into : List ℕ) → count ≤ length into → length (take count into) ≡ count
taken count into few = length-take-le count into few
