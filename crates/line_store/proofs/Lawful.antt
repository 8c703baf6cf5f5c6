-- A job has one text, and so have its ends; no text has two jobs.
use Rattle.std.proofs.Common.{◌≡◌, ℕ, zero, suc, ◌+◌, ◌-◌, ◌^◌, ◌<◌, ◌≤◌, true, false, ◌&&◌, leb, if◌then◌else◌, ℤ, pos, negsuc, List, [], ◌∷◌, ◌++◌, length, take, drop, Result, Ok, Err, refl, sym, ◌∙◌, ap, subst, arith, length-append}
use Rattle.std.proofs.lemmas.List.{append_assoc, append-nil, take_at, drop_at, take-append-drop, length-take-le, get_or-drop}
use Rattle.std.proofs.lemmas.Bool.{and_parts, and_from, leb-true, le-leb, eqb-true, eq-eqb}
use Rattle.std.proofs.lemmas.Int.{to_z-of_z, of_z-to_z}
use Rattle.std.specs.Prelude.{codes}
use Rattle.std.specs.Int.{w8, w16, w32, to_le_bytes, cast_unsigned, cast_signed}
use Rattle.std.proofs.Math.Facts.{sfits_to_z}
use mir.Val.{SFits, Fits}
use Rattle.mpi_words.specs.declared.operation.End.{End}
use Rattle.mpi_words.specs.declared.operation.End.TheVariants.{Exit, Fault}
use Rattle.file_fields.specs.Forms.{Form, Found, Pair, and_then, on_value, exactly, number, is_between, followed, repeated, at_end, read_whole}
use Rattle.file_fields.proofs.Laws.{AreBytes, IsFound, IsForm, IsWhole, whole-only, exactly-form, number-form, followed-form, converted-form, repeated-form, one_byte, two_bytes, four_bytes}
use Rattle.file_fields.proofs.Messages.{below}
use Rattle.line_store.specs.declared.job.Job.{Job}
use Rattle.line_store.specs.Texts.{bytes, head_form, job_form, exit_form, fault_form, fits_end, text_end, read_end, end_form, ends_form}
use Rattle.line_store.specs.Answers.{IsTextOf}

-- what was read is the only value with this text
pub only-text : {A : Type 0} (F : Form A) → IsForm F → (b : List ℕ) → AreBytes b → (x : A) → read_whole F b ≡ Ok x → IsTextOf F b x
only-text {A = A} F law b are x is = subst (λ (w : Result A ℕ). IsWhole F b w) is (whole-only F law b are)

-- A value's text is read as the value.
pub whole-again : {A : Type 0} (F : Form A) → IsForm F → (x : A) → F.fits x ≡ true → read_whole F (F.text x) ≡ Ok x
whole-again {A = A} F law x fits = ap (at_end (length (F.text x))) (ap F.read (sym (append-nil (F.text x))) ∙ law.again x [] fits)

bytes-drop : (n : ℕ) (b : List ℕ) → AreBytes b → AreBytes (drop n b)
bytes-drop n b are i = subst (λ x. x < 256) (sym (get_or-drop n b i 0)) (are (n + i))

bytes-form : (n : ℕ) → IsForm (bytes n)
unfolding bytes
bytes-form n = record {
  again = λ text rest fits.
      let size : length text ≡ n = eqb-true (length text) n fits in
      let enough : leb n (length (text ++ rest)) ≡ true = le-leb n (length (text ++ rest)) (omega (arith, size, length-append text rest)) in
      rw (enough, take_at text rest n size, drop_at text rest n size) refl;
  only = λ b are. elim (leb n (length b)) as (λ t. leb n (length b) ≡ t → IsFound (bytes n) b (if t then Ok (record { value = take n b; rest = drop n b }) else Err b)) [
    | true ↦ λ e. (
      eq-eqb (length (take n b)) n (length-take-le n b (leb-true n (length b) e)),
      sym (take-append-drop n b),
      bytes-drop n b are,
    )
    | false ↦ λ e. tt
  ] refl;
}

abbrev Numbers : Type 0
Numbers = Pair (Unit {0}) (Pair (Unit {0}) (Pair ℕ ℕ))

abbrev numbers_form : Form Numbers
numbers_form = followed (exactly (codes "C3JB")) (λ magic. followed (exactly (1 ∷ 0 ∷ [])) (λ format. followed (number w16 1 16) (λ ranks. number w32 0 65536)))

pub head-form : IsForm head_form
unfolding head_form
head-form = converted-form
    (λ (p : Numbers). (p.second.second.first, p.second.second.second))
    (λ (h : ℕ × ℕ). record { first = tt; second = record { first = tt; second = record { first = h.0; second = h.1 } } })
    numbers_form
    (followed-form (exactly (codes "C3JB")) (λ magic. followed (exactly (1 ∷ 0 ∷ [])) (λ format. followed (number w16 1 16) (λ ranks. number w32 0 65536))) (exactly-form (codes "C3JB")) (λ magic f.
    followed-form (exactly (1 ∷ 0 ∷ [])) (λ format. followed (number w16 1 16) (λ ranks. number w32 0 65536)) (exactly-form (1 ∷ 0 ∷ [])) (λ format g.
    followed-form (number w16 1 16) (λ ranks. number w32 0 65536) (number-form w16 1 16 two_bytes (omega arith)) (λ ranks h. number-form w32 0 65536 four_bytes (omega arith)))))
    (λ h. refl) (λ p fits. refl)

-- the program text is as long as is said
long : (n : ℕ) (text : List ℕ) → (bytes n).fits text ≡ true → length text ≡ n
unfolding bytes
long n text fits = eqb-true (length text) n fits

pub job-form : IsForm job_form
unfolding job_form
job-form = converted-form
    (λ (p : Pair (ℕ × ℕ) (List ℕ)). record { ranks = p.first.0; text = p.second })
    (λ (j : Job). record { first = (j.ranks, length j.text); second = j.text })
    (followed head_form (λ head. bytes head.1))
    (followed-form head_form (λ head. bytes head.1) head-form (λ head f. bytes-form head.1))
    (λ j. refl)
    (λ p fits. ap (λ (n : ℕ). record { first = (p.first.0, n); second = p.second }) (long p.first.1 p.second (and_parts (head_form.fits p.first) ((bytes p.first.1).fits p.second) fits).1))

-- a value of `main`
inside : (z : ℤ) → is_between (negsuc (2 ^ 31 - 1)) (pos (2 ^ 31 - 1)) z ≡ true → SFits w32 z
inside (pos n) fits = record { sfits = omega (arith, leb-true n (2 ^ 31 - 1) fits) }
inside (negsuc n) fits = record { sfits = omega (arith, leb-true n (2 ^ 31 - 1) (and_parts (leb n (2 ^ 31 - 1)) true fits).0) }

within : (z : ℤ) → SFits w32 z → is_between (negsuc (2 ^ 31 - 1)) (pos (2 ^ 31 - 1)) z ≡ true
within (pos n) fits = le-leb n (2 ^ 31 - 1) (omega (arith, fits.sfits))
within (negsuc n) fits = and_from (leb n (2 ^ 31 - 1)) true (le-leb n (2 ^ 31 - 1) (omega (arith, fits.sfits))) refl

unsigned_most : (z : ℤ) → SFits w32 z → cast_unsigned w32 z ≤ 2 ^ 32 - 1
unsigned_most (pos n) fits = omega (arith, fits.sfits)
unsigned_most (negsuc n) fits = omega arith

word-form : IsForm (number w32 0 (2 ^ 32 - 1))
word-form = number-form w32 0 (2 ^ 32 - 1) four_bytes (omega arith)

word_fits : (n : ℕ) → n ≤ 2 ^ 32 - 1 → (number w32 0 (2 ^ 32 - 1)).fits n ≡ true
unfolding number
word_fits n few = and_from (leb 0 n) (leb n (2 ^ 32 - 1)) (le-leb 0 n (omega arith)) (le-leb n (2 ^ 32 - 1) few)

word_text : (n : ℕ) → (number w32 0 (2 ^ 32 - 1)).text n ≡ to_le_bytes w32 n
unfolding number
word_text n = refl

pub exit-form : IsForm exit_form
unfolding exit_form
exit-form = record {
  again = λ z rest fits.
      let n = cast_unsigned w32 z in
      ap (λ (l : List ℕ). on_value (cast_signed w32) ((number w32 0 (2 ^ 32 - 1)).read (l ++ rest))) (sym (word_text n))
      ∙ ap (λ (r : Result (Found ℕ) (List ℕ)). on_value (cast_signed w32) r) (word-form.again n rest (word_fits n (unsigned_most z (inside z fits))))
      ∙ ap (λ (y : ℤ). Ok (record { value = y; rest = rest })) (to_z-of_z w32 z (inside z fits));
  only = λ b are. step b ((number w32 0 (2 ^ 32 - 1)).read b) (word-form.only b are);
}
  where
    step : (b : List ℕ) (r : Result (Found ℕ) (List ℕ)) → IsFound (number w32 0 (2 ^ 32 - 1)) b r → IsFound exit_form b (on_value (cast_signed w32) r)
    step b (Err rest) found = tt
    step b (Ok n) found =
        let few : n.value ≤ 2 ^ 32 - 1 = below w32 0 (2 ^ 32 - 1) n.value found.0 in
        let whole : Fits w32 n.value = record { fits = omega (arith, few) } in (
          within (cast_signed w32 n.value) (sfits_to_z whole),
          found.1 ∙ ap (λ (l : List ℕ). l ++ n.rest) (word_text n.value ∙ ap (to_le_bytes w32) (sym (of_z-to_z w32 n.value (omega (arith, few))))),
          found.2,
        )

fault-form : IsForm fault_form
fault-form = number-form w32 101 118 four_bytes (omega arith)

-- the byte that says which it is
tag-form : IsForm (number w8 0 1)
tag-form = number-form w8 0 1 one_byte (omega arith)

tag_fits : (tag : ℕ) → tag ≤ 1 → (number w8 0 1).fits tag ≡ true
unfolding number
tag_fits tag few = and_from (leb 0 tag) (leb tag 1) (le-leb 0 tag (omega arith)) (le-leb tag 1 few)

tag_text : (tag : ℕ) → tag ≤ 1 → (number w8 0 1).text tag ≡ tag ∷ []
unfolding number
tag_text zero few = refl
tag_text (suc zero) few = refl
tag_text (suc (suc n)) few = absurd (omega (arith, few))

tagged : (tag : ℕ) (rest : List ℕ) → tag ≤ 1 → and_then ((number w8 0 1).read ((tag ∷ []) ++ rest)) read_end ≡ read_end tag rest
tagged tag rest few =
    ap (λ (l : List ℕ). and_then ((number w8 0 1).read (l ++ rest)) read_end) (sym (tag_text tag few)) ∙ ap (λ (r : Result (Found ℕ) (List ℕ)). and_then r read_end) (tag-form.again tag rest (tag_fits tag few))

end-again : (x : End) (rest : List ℕ) → fits_end x ≡ true → and_then ((number w8 0 1).read (text_end x ++ rest)) read_end ≡ Ok (record { value = x; rest = rest })
end-again (Exit value) rest fits =
    ap (λ (l : List ℕ). and_then ((number w8 0 1).read l) read_end) (append_assoc (0 ∷ []) (exit_form.text value) rest)
    ∙ tagged 0 (exit_form.text value ++ rest) (omega arith)
    ∙ ap (λ (r : Result (Found ℤ) (List ℕ)). on_value (λ v. Exit v) r) (exit-form.again value rest fits)
end-again (Fault code) rest fits =
    ap (λ (l : List ℕ). and_then ((number w8 0 1).read l) read_end) (append_assoc (1 ∷ []) (fault_form.text code) rest)
    ∙ tagged 1 (fault_form.text code ++ rest) (omega arith)
    ∙ ap (λ (r : Result (Found ℕ) (List ℕ)). on_value (λ c. Fault c) r) (fault-form.again code rest fits)

pub end-form : IsForm end_form
unfolding end_form
end-form = record { again = end-again; only = λ b are. step b ((number w8 0 1).read b) (tag-form.only b are) }
  where
    exits : (b rest : List ℕ) → b ≡ (0 ∷ []) ++ rest → (r : Result (Found ℤ) (List ℕ)) → IsFound exit_form rest r → IsFound end_form b (on_value (λ v. Exit v) r)
    exits b rest is (Err left) found = tt
    exits b rest is (Ok v) found = (found.0, is ∙ ap (λ (l : List ℕ). (0 ∷ []) ++ l) found.1 ∙ sym (append_assoc (0 ∷ []) (exit_form.text v.value) v.rest), found.2)

    faults : (b rest : List ℕ) → b ≡ (1 ∷ []) ++ rest → (r : Result (Found ℕ) (List ℕ)) → IsFound fault_form rest r → IsFound end_form b (on_value (λ c. Fault c) r)
    faults b rest is (Err left) found = tt
    faults b rest is (Ok c) found = (found.0, is ∙ ap (λ (l : List ℕ). (1 ∷ []) ++ l) found.1 ∙ sym (append_assoc (1 ∷ []) (fault_form.text c.value) c.rest), found.2)

    which : (b rest : List ℕ) (tag : ℕ) → tag ≤ 1 → b ≡ (tag ∷ []) ++ rest → AreBytes rest → IsFound end_form b (read_end tag rest)
    which b rest zero few is are = exits b rest is (exit_form.read rest) (exit-form.only rest are)
    which b rest (suc zero) few is are = faults b rest is (fault_form.read rest) (fault-form.only rest are)
    which b rest (suc (suc n)) few is are = absurd (omega (arith, few))

    step : (b : List ℕ) (r : Result (Found ℕ) (List ℕ)) → IsFound (number w8 0 1) b r → IsFound end_form b (and_then r read_end)
    step b (Err rest) found = tt
    step b (Ok tag) found =
        let few : tag.value ≤ 1 = below w8 0 1 tag.value found.0 in
        which b tag.rest tag.value few (found.1 ∙ ap (λ (l : List ℕ). l ++ tag.rest) (tag_text tag.value few)) found.2

-- the ends of so many ranks
only-count : (ranks n : ℕ) → (number w16 ranks ranks).fits n ≡ true → n ≡ ranks
unfolding number
only-count ranks n fits =
    let parts = and_parts (leb ranks n) (leb n ranks) fits in
    omega (arith, leb-true ranks n parts.0, leb-true n ranks parts.1)

abbrev Codes : Type 0
Codes = Pair (Unit {0}) (Pair ℕ (List End))

pub ends-form : (ranks : ℕ) → ranks < 2 ^ 16 → IsForm (ends_form ranks)
unfolding ends_form
ends-form ranks few = converted-form
    (λ (p : Codes). p.second.second)
    (λ (ends : List End). record { first = tt; second = record { first = ranks; second = ends } })
    (followed (exactly (codes "C3EN")) (λ magic. followed (number w16 ranks ranks) (λ n. repeated n (λ at. end_form))))
    (followed-form (exactly (codes "C3EN")) (λ magic. followed (number w16 ranks ranks) (λ n. repeated n (λ at. end_form))) (exactly-form (codes "C3EN")) (λ magic f.
    followed-form (number w16 ranks ranks) (λ n. repeated n (λ at. end_form)) (number-form w16 ranks ranks two_bytes (omega (arith, few))) (λ n g. repeated-form (λ at. end_form) (λ at. end-form) n)))
    (λ ends. refl)
    (λ p fits. ap (λ (n : ℕ). record { first = tt; second = record { first = n; second = p.second.second } }) (sym (only-count ranks p.second.first (count_fits p fits))))
  where
    count_fits : (p : Codes) → (followed (exactly (codes "C3EN")) (λ magic. followed (number w16 ranks ranks) (λ n. repeated n (λ at. end_form)))).fits p ≡ true → (number w16 ranks ranks).fits p.second.first ≡ true
    count_fits p fits =
        let a = and_parts ((exactly (codes "C3EN")).fits p.first) ((number w16 ranks ranks).fits p.second.first && (repeated p.second.first (λ at. end_form)).fits p.second.second) fits in
        (and_parts ((number w16 ranks ranks).fits p.second.first) ((repeated p.second.first (λ at. end_form)).fits p.second.second) a.1).0
