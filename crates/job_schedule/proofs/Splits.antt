-- A text has the words that are read off it, and no others.
use Rattle.std.proofs.Common.{◌≡◌, ℕ, zero, suc, ◌+◌, ◌≤◌, Bool, true, false, not, List, [], ◌∷◌, ◌++◌, length, take, refl, sym, ap, subst, ◌∙◌, arith, length-append}
use Rattle.std.specs.Prelude.{take_while}
use Rattle.std.specs.List.{list_all, prefix_len}
use Rattle.std.proofs.lemmas.Bool.{and_parts}
use Rattle.std.proofs.lemmas.List.{take_at}
use Rattle.job_schedule.specs.Schedule.{Piece, Pieces, empty, white, word, ends_word, in_word, is_white}
use Rattle.job_schedule.specs.Reading.{piece_at, pieces_from, pieces_of}

-- a run of bytes within a word, and the rest of a text
record Run (text : List ℕ) : Type 0 where
  front : List ℕ
  rest : List ℕ
  parts : text ≡ front ++ rest
  within : list_all in_word front ≡ true
  ends : ends_word rest ≡ true

run_step : (b : ℕ) (bs : List ℕ) (t : Bool) → is_white b ≡ t → Run bs → Run (b ∷ bs)
run_step b bs true e r = record { front = []; rest = b ∷ bs; parts = refl; within = refl; ends = e }
run_step b bs false e r = record { front = b ∷ r.front; rest = r.rest; parts = ap (λ l. b ∷ l) r.parts; within = rw e r.within; ends = r.ends }

run_of : (text : List ℕ) → Run text
run_of [] = record { front = []; rest = []; parts = refl; within = refl; ends = refl }
run_of (b ∷ bs) = run_step b bs (is_white b) refl (run_of bs)

no_word : (rest : List ℕ) → ends_word rest ≡ true → prefix_len in_word rest ≡ 0
no_word [] e = refl
no_word (b ∷ bs) e = rw e refl

word_len : (w rest : List ℕ) → list_all in_word w ≡ true → ends_word rest ≡ true → prefix_len in_word (w ++ rest) ≡ length w
word_len [] rest h e = no_word rest e
word_len (b ∷ w) rest h e =
    let q = and_parts (in_word b) (list_all in_word w) h in
    rw (q.0, word_len w rest q.1 e) (omega arith)

word_read : (w rest : List ℕ) → list_all in_word w ≡ true → ends_word rest ≡ true → take_while in_word (w ++ rest) ≡ w
word_read w rest h e = ap (λ n. take n (w ++ rest)) (word_len w rest h e) ∙ take_at w rest (length w) refl

-- no word begins where one ends
fresh_there : (place : ℕ) (rest : List ℕ) → ends_word rest ≡ true → pieces_from false place rest ≡ pieces_from true place rest
fresh_there place [] e = refl
fresh_there place (b ∷ bs) e = rw e refl

not_true : (t : Bool) → not t ≡ true → t ≡ false
not_true true h = sym h
not_true false h = refl

within_word : (b : ℕ) → in_word b ≡ true → is_white b ≡ false
within_word b h = not_true (is_white b) h

-- none begins within one
passed : (place : ℕ) (w rest : List ℕ) → list_all in_word w ≡ true → ends_word rest ≡ true → pieces_from false place (w ++ rest) ≡ pieces_from true (place + length w) rest
passed place [] rest h e = fresh_there place rest e ∙ ap (λ n. pieces_from true n rest) (omega arith)
passed place (b ∷ w) rest h e =
    let q = and_parts (in_word b) (list_all in_word w) h in
    let step : pieces_from false place (b ∷ w ++ rest) ≡ pieces_from false (place + 1) (w ++ rest) = rw (within_word b q.0) refl in
    step ∙ passed (place + 1) w rest q.1 e ∙ ap (λ n. pieces_from true n rest) (omega arith)

pub begins : (place b : ℕ) (bs : List ℕ) → is_white b ≡ false → pieces_from true place (b ∷ bs) ≡ record { place = place; bytes = take_while in_word (b ∷ bs) } ∷ pieces_from false (place + 1) bs
begins place b bs e = ap (λ t. piece_at (not t) place (b ∷ bs) ++ pieces_from t (place + 1) bs) e

word_first : (place b : ℕ) (w rest : List ℕ) → list_all in_word (b ∷ w) ≡ true → ends_word rest ≡ true → pieces_from true place (b ∷ w ++ rest) ≡ record { place = place; bytes = b ∷ w } ∷ pieces_from true (place + length (b ∷ w)) rest
word_first place b w rest h e =
    let q = and_parts (in_word b) (list_all in_word w) h in
    let plain : is_white b ≡ false = within_word b q.0 in
    let after : pieces_from false (place + 1) (w ++ rest) ≡ pieces_from true (place + length (b ∷ w)) rest = passed (place + 1) w rest q.1 e ∙ ap (λ n. pieces_from true n rest) (omega arith) in
    begins place b (w ++ rest) plain ∙ ap (λ l. record { place = place; bytes = l } ∷ pieces_from false (place + 1) (w ++ rest)) (word_read (b ∷ w) rest h e) ∙ ap (λ l. record { place = place; bytes = b ∷ w } ∷ l) after

pub pieces_sound : (place : ℕ) (text : List ℕ) (pieces : List Piece) → Pieces place text pieces → pieces ≡ pieces_from true place text
pieces_sound place text pieces (empty p) = refl
pieces_sound place text pieces (white p b rest list e h) = rw e (pieces_sound (place + 1) rest list h)
pieces_sound place text pieces (word p b w rest list h e k) = ap (λ l. record { place = place; bytes = b ∷ w } ∷ l) (pieces_sound (place + length (b ∷ w)) rest list k) ∙ sym (word_first place b w rest h e)

-- a text that is no longer has the words that are read
abbrev IsSplit : ℕ → Type 0
IsSplit k = (place : ℕ) (text : List ℕ) → length text ≤ k → Pieces place text (pieces_from true place text)

split_at : (k place b : ℕ) (bs : List ℕ) (t : Bool) → is_white b ≡ t → length bs ≤ k → IsSplit k → Pieces place (b ∷ bs) (pieces_from true place (b ∷ bs))
split_at k place b bs true e h rest =
    let read : pieces_from true place (b ∷ bs) ≡ pieces_from true (place + 1) bs = rw e refl in
    subst (Pieces place (b ∷ bs)) (sym read) (white place b bs (pieces_from true (place + 1) bs) e (rest (place + 1) bs h))
split_at k place b bs false e h rest =
    let r = run_of bs in
    let long : length bs ≡ length r.front + length r.rest = ap length r.parts ∙ length-append r.front r.rest in
    let within : list_all in_word (b ∷ r.front) ≡ true = rw e r.within in
    let after = rest (place + length (b ∷ r.front)) r.rest (omega (arith, long, h)) in
    let whole : b ∷ r.front ++ r.rest ≡ b ∷ bs = ap (λ l. b ∷ l) (sym r.parts) in
    let P : List ℕ → Type 0 = λ text. Pieces place text (pieces_from true place text) in
    subst P whole (subst (Pieces place (b ∷ r.front ++ r.rest)) (sym (word_first place b r.front r.rest within r.ends)) (word place b r.front r.rest (pieces_from true (place + length (b ∷ r.front)) r.rest) within r.ends after))

split : (k : ℕ) → IsSplit k
split k place [] h = empty place
split zero place (b ∷ bs) h = absurd (omega arith)
split (suc k) place (b ∷ bs) h = split_at k place b bs (is_white b) refl (omega arith) (split k)

pub pieces_complete : (text : List ℕ) → Pieces 0 text (pieces_of text)
pieces_complete text = split (length text) 0 text (omega arith)
