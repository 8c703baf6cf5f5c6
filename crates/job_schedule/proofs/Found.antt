-- What a place of the text tells of its words.
use Rattle.std.proofs.Common.{◌≡◌, ℕ, ◌+◌, ◌<◌, ◌≤◌, Bool, true, false, List, ◌∷◌, ◌++◌, length, drop, get_or, Some, None, refl, sym, ap, subst, ◌∙◌}
use Rattle.std.specs.Prelude.{take_while}
use Rattle.std.proofs.lemmas.List.{append-nil, at_drop_all, drop_more}
use Rattle.job_schedule.specs.declared.schedule.Entry.{Entry}
use Rattle.job_schedule.specs.Reading.{entries_in, entry_of, first_bad, pieces_from}
use Rattle.job_schedule.specs.Schedule.{Piece, in_word, is_white}
use Rattle.job_schedule.proofs.Splits.{begins}

at_word : (text : List ℕ) (at : ℕ) → at < length text → is_white (get_or text at 0) ≡ false
    → pieces_from true at (drop at text) ≡ record { place = at; bytes = take_while in_word (drop at text) } ∷ pieces_from false (at + 1) (drop (at + 1) text)
at_word text at h e =
    let P : List ℕ → Type 0 = λ l. pieces_from true at l ≡ record { place = at; bytes = take_while in_word l } ∷ pieces_from false (at + 1) (drop (at + 1) text) in
    subst P (sym (drop_more text at 0 h)) (begins at (get_or text at 0) (drop (at + 1) text) e)

bad_first : (p : Piece) (ps : List Piece) → entry_of p.bytes ≡ None → first_bad (p ∷ ps) ≡ Some p.place
bad_first p ps e = rw e refl

-- a word that stands for nothing begins here
pub bad_here : (text : List ℕ) (at : ℕ) (fresh : Bool) (w : List ℕ) → at < length text → fresh ≡ true → is_white (get_or text at 0) ≡ false → w ≡ take_while in_word (drop at text) → entry_of w ≡ None
    → first_bad (pieces_from fresh at (drop at text)) ≡ Some at
bad_here text at fresh w h f e g n =
    ap (λ t. first_bad (pieces_from t at (drop at text))) f ∙ ap first_bad (at_word text at h e)
    ∙ bad_first (record { place = at; bytes = take_while in_word (drop at text) }) (pieces_from false (at + 1) (drop (at + 1) text)) (ap entry_of (sym g) ∙ n)

-- no word begins at the text's end
pub none_at_end : (text : List ℕ) (at : ℕ) (fresh : Bool) → length text ≤ at → first_bad (pieces_from fresh at (drop at text)) ≡ None
none_at_end text at fresh h = at_drop_all (λ l. first_bad (pieces_from fresh at l)) text at h

pub all_at_end : (text : List ℕ) (at : ℕ) (fresh : Bool) (entries : List Entry) → length text ≤ at → entries ++ entries_in (pieces_from fresh at (drop at text)) ≡ entries
all_at_end text at fresh entries h = at_drop_all (λ l. entries ++ entries_in (pieces_from fresh at l)) text at h ∙ append-nil entries
