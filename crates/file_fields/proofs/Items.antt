-- Loops over so many values.
use Rattle.std.proofs.Common.{◌≡◌, ℕ, zero, suc, ◌+◌, ◌-◌, ◌<◌, ◌≤◌, true, List, [], ◌∷◌, ◌++◌, length, get_or, Result, Ok, Err, refl, sym, ◌∙◌, ap, arith}
use Rattle.std.proofs.lemmas.List.{append_assoc, append-nil}
use Rattle.std.proofs.lemmas.Bool.{and_parts, true≢false, leb-true}
use Rattle.std.specs.Prelude.{leb, ◌^◌}
use Rattle.std.specs.Int.{w32, to_le_bytes, is_in_range}
use Rattle.file_fields.specs.declared.reading.ReadFault.{ReadFault}
use Rattle.file_fields.specs.declared.reading.ReadFault.TheVariants.{Wrong, NoMemory}
use Rattle.file_fields.specs.Reads.{Stopped}
use Rattle.file_fields.specs.Forms.{Found, Form, and_then, on_value, fit_each, text_each, read_each, number, repeated, counted}

module _ {A : Type 0} (F : ℕ → Form A) where
  -- these values were read, and what is left is read as the others
  abbrev pub GoesOn : ℕ → List ℕ → ℕ → List A → List ℕ → Type 0
  GoesOn count old at items now = read_each F 0 count old ≡ on_value (λ xs. items ++ xs) (read_each F at (count - at) now)

  pub begins : (count : ℕ) (old : List ℕ) → GoesOn count old 0 [] old
  begins count old = let all : count - 0 ≡ count = omega arith in same (read_each F 0 count old) ∙ ap (λ n. on_value (λ xs. [] ++ xs) (read_each F 0 n old)) (sym all)
    where
      same : (r : Result (Found (List A)) (List ℕ)) → r ≡ on_value (λ xs. [] ++ xs) r
      same (Ok found) = refl
      same (Err rest) = refl

  behind : (items : List A) (x : A) (r : Result (Found (List A)) (List ℕ)) → on_value (λ xs. items ++ xs) (on_value (λ xs. x ∷ xs) r) ≡ on_value (λ xs. (items ++ x ∷ []) ++ xs) r
  behind items x (Ok found) = ap (λ (l : List A). Ok (record { value = l; rest = found.rest })) (sym (append_assoc items (x ∷ []) found.value))
  behind items x (Err rest) = refl

  one_more : (n at : ℕ) (now : List ℕ) (items : List A) (r : Result (Found A) (List ℕ)) → (F at).read now ≡ r
      → on_value (λ xs. items ++ xs) (read_each F at (suc n) now) ≡ on_value (λ xs. items ++ xs) (and_then r (λ x rest. on_value (λ xs. x ∷ xs) (read_each F (at + 1) n rest)))
  one_more n at now items r is = ap (λ (r : Result (Found A) (List ℕ)). on_value (λ xs. items ++ xs) (and_then r (λ x rest. on_value (λ xs. x ∷ xs) (read_each F (at + 1) n rest)))) is

  pub goes_on : (count : ℕ) (old : List ℕ) (at : ℕ) (items : List A) (now : List ℕ) (x : A) (next : List ℕ) → at < count → GoesOn count old at items now → (F at).read now ≡ Ok (record { value = x; rest = next })
      → GoesOn count old (at + 1) (items ++ x ∷ []) next
  goes_on count old at items now x next lt so_far is =
      let left : count - at ≡ suc (count - (at + 1)) = omega (arith, lt) in
      so_far ∙ ap (λ n. on_value (λ xs. items ++ xs) (read_each F at n now)) left
      ∙ one_more (count - (at + 1)) at now items (Ok (record { value = x; rest = next })) is
      ∙ behind items x (read_each F (at + 1) (count - (at + 1)) next)

  pub stops : (count : ℕ) (old : List ℕ) (at : ℕ) (items : List A) (now next : List ℕ) → at < count → GoesOn count old at items now → (F at).read now ≡ Err next → read_each F 0 count old ≡ Err next
  stops count old at items now next lt so_far is =
      let left : count - at ≡ suc (count - (at + 1)) = omega (arith, lt) in
      so_far ∙ ap (λ n. on_value (λ xs. items ++ xs) (read_each F at n now)) left ∙ one_more (count - (at + 1)) at now items (Err next) is

  pub ends : (count : ℕ) (old : List ℕ) (at : ℕ) (items : List A) (now : List ℕ) → count ≤ at → GoesOn count old at items now → read_each F 0 count old ≡ Ok (record { value = items; rest = now })
  ends count old at items now le so_far =
      let none : count - at ≡ 0 = omega (arith, le) in
      so_far ∙ ap (λ n. on_value (λ xs. items ++ xs) (read_each F at n now)) none ∙ ap (λ (l : List A). Ok (record { value = l; rest = now })) (append-nil items)

  -- one more value in a text
  pub text-push : (at : ℕ) (xs : List A) (x : A) → text_each F at (xs ++ x ∷ []) ≡ text_each F at xs ++ (F (at + length xs)).text x
  text-push at [] x = let here : at + 0 ≡ at = omega arith in append-nil ((F at).text x) ∙ ap (λ n. (F n).text x) (sym here)
  text-push at (y ∷ xs) x =
      let place : at + 1 + length xs ≡ at + suc (length xs) = omega arith in
      ap (λ (l : List ℕ). (F at).text y ++ l) (text-push (at + 1) xs x ∙ ap (λ n. text_each F (at + 1) xs ++ (F n).text x) place)
      ∙ sym (append_assoc ((F at).text y) (text_each F (at + 1) xs) ((F (at + suc (length xs))).text x))

  pub fits-at : (at n : ℕ) (xs : List A) (i : ℕ) (d : A) → fit_each F at n xs ≡ true → i < length xs → (F (at + i)).fits (get_or xs i d) ≡ true
  fits-at at n [] i d fits lt = absurd (omega (arith, lt))
  fits-at at zero (x ∷ xs) i d fits lt = absurd (true≢false (sym fits))
  fits-at at (suc n) (x ∷ xs) zero d fits lt = let here : at + 0 ≡ at = omega arith in ap (λ k. (F k).fits x) here ∙ (and_parts ((F at).fits x) (fit_each F (at + 1) n xs) fits).0
  fits-at at (suc n) (x ∷ xs) (suc i) d fits lt =
      let place : at + 1 + i ≡ at + suc i = omega arith in
      ap (λ k. (F k).fits (get_or xs i d)) (sym place) ∙ fits-at (at + 1) n xs i d (and_parts ((F at).fits x) (fit_each F (at + 1) n xs) fits).1 (omega (arith, lt))

-- what the limits of a list with its count say
module _ {A : Type 0} (F : Form A) (xs : List A) (fits : (counted F).fits xs ≡ true) where
  pub counted-length : length xs < 2 ^ 32
  unfolding counted number repeated
  counted-length =
      let parts = and_parts (is_in_range 0 (2 ^ 32 - 1) (length xs)) (fit_each (λ at. F) 0 (length xs) xs) fits in
      omega (arith, leb-true (length xs) (2 ^ 32 - 1) (and_parts (leb 0 (length xs)) (leb (length xs) (2 ^ 32 - 1)) parts.0).1)

  pub counted-fits : (i : ℕ) (d : A) → i < length xs → F.fits (get_or xs i d) ≡ true
  unfolding counted number repeated
  counted-fits i d lt = fits-at (λ at. F) 0 (length xs) xs i d (and_parts (is_in_range 0 (2 ^ 32 - 1) (length xs)) (fit_each (λ at. F) 0 (length xs) xs) fits).1 lt

  pub counted-text : (counted F).text xs ≡ to_le_bytes w32 (length xs) ++ text_each (λ at. F) 0 xs
  unfolding counted number repeated
  counted-text = refl

-- a fault in one of so many values is one of them all
pub stops-at : {A : Type 0} (F : ℕ → Form A) (count : ℕ) (old : List ℕ) (at : ℕ) (items : List A) (now next : List ℕ) (fault : ReadFault) → at < count → GoesOn F count old at items now
    → Stopped (F at) now next fault → Stopped (repeated count F) old next fault
unfolding repeated
stops-at F count old at items now next Wrong lt so_far is = stops F count old at items now next lt so_far is
stops-at F count old at items now next NoMemory lt so_far is = tt
