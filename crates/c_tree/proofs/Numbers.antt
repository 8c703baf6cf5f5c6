-- Words and numbers.
use Rattle.std.proofs.Common.{ℕ, ◌≡◌, ◌+◌, List, [], ◌∷◌, ◌++◌, Bool, true, false, refl, sym, ap, subst, ◌∙◌, arith, length, drop, length-append, append_assoc, append-nil}
use Rattle.std.specs.Prelude.{nat_eq}
use Rattle.std.proofs.lemmas.Bool.Decides.{nat_tests}
use Rattle.std.proofs.lemmas.Bool.{or_right, and_from, eqb-true}
use Rattle.std.proofs.lemmas.List.{nil_from_length, drop_at}
use Rattle.c_tree.specs.Scan.{is_letter, is_digit, is_name_byte, front, first, digits, suffix_length}
use Rattle.c_tree.specs.Tokens.{Meaning, Real, IsPiece, IsDecimal, a_zero, digits as many, IsSuffix, no_letter, small_letter, large_letter, every}
use Rattle.c_tree.specs.Tokens as is
use Rattle.c_tree.proofs.Sight.{some, seen, seen_word, seen_number, word_meaning, number_meaning, number_sight, is_suffix}
use Rattle.c_tree.proofs.Fronts.{Covers, Got, front_covers, front_split, front_over, front_yes}

-- ---- words

letter_name : (b : ℕ) → is_letter b ≡ true → is_name_byte b ≡ true
letter_name b h = rw h refl

pub covers_word : (fresh : Bool) (b : ℕ) (body after : List ℕ) → is_letter b ≡ true → every is_name_byte body ≡ true → Covers (b ∷ body) (word_meaning (b ∷ body)) (seen fresh (b ∷ (body ++ after)))
covers_word fresh b body after h k =
    let e : every is_name_byte (b ∷ body) ≡ true = and_from (is_name_byte b) _ (letter_name b h) k in
    subst (Covers (b ∷ body) (word_meaning (b ∷ body))) (sym (seen_word fresh b (body ++ after) h)) (front_covers is_name_byte word_meaning (b ∷ body) after e)

pub got_word : (before : List ℕ) (fresh : Bool) (b : ℕ) (bs : List ℕ) → is_letter b ≡ true → Got before (b ∷ bs) (seen fresh (b ∷ bs))
got_word before fresh b bs h =
    let s = front_split is_name_byte bs in
    let e : front is_name_byte (b ∷ bs) ≡ b ∷ front is_name_byte bs = front_yes is_name_byte b bs (letter_name b h) in
    let g : Got before (b ∷ bs) (some (length (b ∷ front is_name_byte bs)) (word_meaning (b ∷ front is_name_byte bs))) = (b ∷ front is_name_byte bs, s.0, ap (λ t. b ∷ t) s.1, refl, is.word b (front is_name_byte bs) refl h s.2) in
    subst (Got before (b ∷ bs)) (sym (seen_word fresh b bs h ∙ ap (λ w. some (length w) (word_meaning w)) e)) g

-- ---- numbers

sight_at : (w text rest : List ℕ) (long : Bool) → text ≡ w ++ rest → first is_suffix rest ≡ long → number_sight w text ≡ some (length w + suffix_length long) (number_meaning long w)
sight_at w text rest long e h =
    let d : drop (length w) text ≡ rest = ap (drop (length w)) e ∙ drop_at w rest (length w) refl in
    let g : first is_suffix (drop (length w) text) ≡ long = ap (first is_suffix) d ∙ h in
    ap (λ l. some (length w + suffix_length l) (number_meaning l w)) g

covers_plain : (w t : List ℕ) (long : Bool) → Covers w (number_meaning false w) (some (length (w ++ t) + suffix_length long) (number_meaning long (w ++ t)))
covers_plain w t true =
    let l : length (w ++ t) ≡ length w + length t = length-append w t in
    (omega arith, λ e. absurd (omega arith))
covers_plain w t false =
    let l : length (w ++ t) ≡ length w + length t = length-append w t in
    (omega arith, λ e. let z : length t ≡ 0 = omega arith in ap (number_meaning false) (sym (ap (λ s. w ++ s) (nil_from_length t z) ∙ append-nil w)))

covers_suffix : (w : List ℕ) (c : ℕ) → Covers (w ++ c ∷ []) (number_meaning true w) (some (length w + suffix_length true) (number_meaning true w))
covers_suffix w c =
    let l : length (w ++ c ∷ []) ≡ length w + 1 = length-append w (c ∷ []) in
    (omega arith, λ e. refl)

-- what the digits of a text are, where they are w and more
digits_many : (d : ℕ) (bs : List ℕ) → nat_eq d 48 ≡ false → digits (d ∷ bs) ≡ front is_digit (d ∷ bs)
digits_many d bs h = rw (h, digits) refl

many_over : (d : ℕ) (ds after : List ℕ) → is_digit d ≡ true → nat_eq d 48 ≡ false → every is_digit ds ≡ true → digits (d ∷ (ds ++ after)) ≡ (d ∷ ds) ++ front is_digit after
many_over d ds after h z k = digits_many d (ds ++ after) z ∙ front_over is_digit (d ∷ ds) after (and_from (is_digit d) _ h k)

suffix_no_digit : (c : ℕ) (after : List ℕ) → is_suffix c ≡ true → front is_digit (c ∷ after) ≡ []
suffix_no_digit c after h = let e : is_digit c ≡ false = grind (arith, nat_tests) in rw (e, front) refl

-- the digits w of the text w ++ s ++ after
decimal_over : (w : List ℕ) (c : ℕ) (after : List ℕ) → IsDecimal w → is_suffix c ≡ true → digits (w ++ c ∷ after) ≡ w
decimal_over _ c after a_zero h = refl
decimal_over _ c after (many d ds g z k) h = many_over d ds (c ∷ after) g z k ∙ (ap (λ t. (d ∷ ds) ++ t) (suffix_no_digit c after h) ∙ append-nil (d ∷ ds))

seen_decimal : (fresh : Bool) (w text : List ℕ) → IsDecimal w → seen fresh (w ++ text) ≡ number_sight (digits (w ++ text)) (w ++ text)
seen_decimal fresh _ text a_zero = seen_number fresh 48 text refl
seen_decimal fresh _ text (many d ds g z k) = seen_number fresh d (ds ++ text) g

covers_long : (fresh : Bool) (w : List ℕ) (c : ℕ) (after : List ℕ) → IsDecimal w → is_suffix c ≡ true → Covers (w ++ c ∷ []) (number_meaning true w) (seen fresh ((w ++ c ∷ []) ++ after))
covers_long fresh w c after d h =
    let a : (w ++ c ∷ []) ++ after ≡ w ++ c ∷ after = append_assoc w (c ∷ []) after in
    let e : seen fresh ((w ++ c ∷ []) ++ after) ≡ some (length w + suffix_length true) (number_meaning true w) =
    ap (seen fresh) a ∙ (seen_decimal fresh w (c ∷ after) d ∙ (ap (λ v. number_sight v (w ++ c ∷ after)) (decimal_over w c after d h) ∙ sight_at w (w ++ c ∷ after) (c ∷ after) true refl h)) in
    subst (Covers (w ++ c ∷ []) (number_meaning true w)) (sym e) (covers_suffix w c)

-- without a suffix: the digits are w and t
covers_short_at : (fresh : Bool) (w t rest after : List ℕ) → IsDecimal w → digits (w ++ after) ≡ w ++ t → after ≡ t ++ rest → Covers w (number_meaning false w) (seen fresh (w ++ after))
covers_short_at fresh w t rest after d h e =
    let a : w ++ after ≡ (w ++ t) ++ rest = ap (λ s. w ++ s) e ∙ sym (append_assoc w t rest) in
    let long = first is_suffix rest in
    let s : seen fresh (w ++ after) ≡ some (length (w ++ t) + suffix_length long) (number_meaning long (w ++ t)) =
    seen_decimal fresh w after d ∙ (ap (λ v. number_sight v (w ++ after)) h ∙ sight_at (w ++ t) (w ++ after) rest long a refl) in
    subst (Covers w (number_meaning false w)) (sym s) (covers_plain w t long)

covers_short : (fresh : Bool) (w after : List ℕ) → IsDecimal w → Covers w (number_meaning false w) (seen fresh (w ++ after))
covers_short fresh _ after a_zero = covers_short_at fresh (48 ∷ []) [] after after a_zero refl refl
covers_short fresh _ after (many d ds g z k) =
    let s = front_split is_digit after in
    covers_short_at fresh (d ∷ ds) (front is_digit after) s.0 after (many d ds g z k) (many_over d ds after g z k) s.1

pub covers_number : (fresh : Bool) (w suffix after : List ℕ) (long : Bool) → IsDecimal w → IsSuffix suffix long → Covers (w ++ suffix) (number_meaning long w) (seen fresh ((w ++ suffix) ++ after))
covers_number fresh w _ after _ d no_letter = subst (λ v. Covers v (number_meaning false w) (seen fresh (v ++ after))) (sym (append-nil w)) (covers_short fresh w after d)
covers_number fresh w _ after _ d small_letter = covers_long fresh w 108 after d refl
covers_number fresh w _ after _ d large_letter = covers_long fresh w 76 after d refl

got_at : (before w text rest suffix more : List ℕ) (long : Bool) → IsDecimal w → text ≡ w ++ rest → first is_suffix rest ≡ long → rest ≡ suffix ++ more → IsSuffix suffix long → length suffix ≡ suffix_length long → Got before text (number_sight w text)
got_at before w text rest suffix more long d e h k s l =
    let a : text ≡ (w ++ suffix) ++ more = e ∙ (ap (λ t. w ++ t) k ∙ sym (append_assoc w suffix more)) in
    let n : length (w ++ suffix) ≡ length w + suffix_length long = length-append w suffix ∙ ap (λ m. length w + m) l in
    subst (Got before text) (sym (sight_at w text rest long e h)) (w ++ suffix, more, a, n, is.number w suffix long refl d s)

got_suffix : (before w text : List ℕ) (c : ℕ) (more : List ℕ) (small large : Bool) → IsDecimal w → text ≡ w ++ c ∷ more → nat_eq c 108 ≡ small → nat_eq c 76 ≡ large → Got before text (number_sight w text)
got_suffix before w text c more true large d e h k = got_at before w text (c ∷ more) (108 ∷ []) more true d e (rw h refl) (ap (λ x. x ∷ more) (eqb-true c 108 h)) small_letter refl
got_suffix before w text c more false true d e h k = got_at before w text (c ∷ more) (76 ∷ []) more true d e (or_right (nat_eq c 108) _ k) (ap (λ x. x ∷ more) (eqb-true c 76 k)) large_letter refl
got_suffix before w text c more false false d e h k = got_at before w text (c ∷ more) [] (c ∷ more) false d e (rw (h, k) refl) refl no_letter refl

got_decimal : (before w text rest : List ℕ) → IsDecimal w → text ≡ w ++ rest → Got before text (number_sight w text)
got_decimal before w text [] d e = got_at before w text [] [] [] false d e refl refl no_letter refl
got_decimal before w text (c ∷ more) d e = got_suffix before w text c more _ _ d e refl refl

got_digits : (before : List ℕ) (b : ℕ) (bs : List ℕ) (zero_first : Bool) → is_digit b ≡ true → nat_eq b 48 ≡ zero_first → Got before (b ∷ bs) (number_sight (digits (b ∷ bs)) (b ∷ bs))
got_digits before b bs true h z = subst (λ x. Got before (x ∷ bs) (number_sight (digits (x ∷ bs)) (x ∷ bs))) (sym (eqb-true b 48 z)) (got_decimal before (48 ∷ []) (48 ∷ bs) bs a_zero refl)
got_digits before b bs false h z =
    let s = front_split is_digit bs in
    let e : digits (b ∷ bs) ≡ b ∷ front is_digit bs = digits_many b bs z ∙ front_yes is_digit b bs h in
    subst (λ w. Got before (b ∷ bs) (number_sight w (b ∷ bs))) (sym e) (got_decimal before (b ∷ front is_digit bs) (b ∷ bs) s.0 (many b (front is_digit bs) h z s.2) (ap (λ t. b ∷ t) s.1))

pub got_number : (before : List ℕ) (fresh : Bool) (b : ℕ) (bs : List ℕ) → is_digit b ≡ true → Got before (b ∷ bs) (seen fresh (b ∷ bs))
got_number before fresh b bs h = subst (Got before (b ∷ bs)) (sym (seen_number fresh b bs h)) (got_digits before b bs _ h refl)
