-- What a text is read as is its one answer.
use Rattle.std.proofs.Common.{◌≡◌, ℕ, ◌<◌, ◌≤◌, Bool, true, false, cond, ltb, List, [], ◌∷◌, ◌++◌, Option, Some, None, refl, sym, ap, subst, ◌∙◌, arith}
use Rattle.std.proofs.lemmas.Bool.{le-ltb, lt-ltb, ltb-false, ltb-true}
use Rattle.std.proofs.lemmas.Option.{none-some, same_Some}
use Rattle.job_schedule.specs.declared.schedule.Entry.{Entry}
use Rattle.job_schedule.specs.Events.{total_of}
use Rattle.job_schedule.specs.Reading.{answer_of, by_bad, by_total, entries_in, first_bad, pieces_of, stands_for}
use Rattle.job_schedule.specs.Schedule.{Answer, Whole, BadEvent, TooMany, Piece, Pieces, Reads, Stand, whole, bad, many}
use Rattle.job_schedule.specs.Words.{IsEntry}
use Rattle.job_schedule.proofs.Splits.{pieces_complete, pieces_sound}
use Rattle.job_schedule.proofs.Tables.{entry_complete, entry_sound}

-- ---- words that all stand for an entry

stand_step : (p : Piece) (ps : List Piece) (o : Option Entry) → stands_for p ≡ o → (first_bad ps ≡ None → Stand ps (entries_in ps)) → first_bad (p ∷ ps) ≡ None → Stand (p ∷ ps) (entries_in (p ∷ ps))
stand_step p ps None e rest h = absurd (none-some p.place (sym (rw e at h)))
stand_step p ps (Some x) e rest h = rw e (entry_sound p.bytes x e, rest (rw e at h))

all_stand : (ps : List Piece) → first_bad ps ≡ None → Stand ps (entries_in ps)
all_stand [] h = tt
all_stand (p ∷ ps) h = stand_step p ps (stands_for p) refl (all_stand ps) h

none_bad : (ps : List Piece) (es : List Entry) → Stand ps es → first_bad ps ≡ None
none_bad [] [] h = refl
none_bad [] (e ∷ es) h = absurd h
none_bad (p ∷ ps) [] h = absurd h
none_bad (p ∷ ps) (e ∷ es) h = rw (entry_complete p.bytes e h.0) (none_bad ps es h.1)

their_entries : (ps : List Piece) (es : List Entry) → Stand ps es → entries_in ps ≡ es
their_entries [] [] h = refl
their_entries [] (e ∷ es) h = absurd h
their_entries (p ∷ ps) [] h = absurd h
their_entries (p ∷ ps) (e ∷ es) h = rw (entry_complete p.bytes e h.0) (ap (λ l. e ∷ l) (their_entries ps es h.1))

-- ---- a word that stands for none

record IsFirstBad (ps : List Piece) (place : ℕ) : Type 0 where
  before : List Piece
  after : List Piece
  p : Piece
  entries : List Entry
  parts : ps ≡ before ++ p ∷ after
  stand : Stand before entries
  none : (e : Entry) → IsEntry p.bytes e → ⊥
  there : p.place ≡ place

no_entry : (p : Piece) → stands_for p ≡ None → (e : Entry) → IsEntry p.bytes e → ⊥
no_entry p h e k = none-some e (sym h ∙ entry_complete p.bytes e k)

bad_step : (p : Piece) (ps : List Piece) (place : ℕ) (o : Option Entry) → stands_for p ≡ o → (first_bad ps ≡ Some place → IsFirstBad ps place) → first_bad (p ∷ ps) ≡ Some place → IsFirstBad (p ∷ ps) place
bad_step p ps place None e rest h =
    record { before = []; after = ps; p = p; entries = []; parts = refl; stand = tt; none = no_entry p e; there = same_Some p.place place (rw e at h) }
bad_step p ps place (Some x) e rest h =
    let r = rest (rw e at h) in
    record { before = p ∷ r.before; after = r.after; p = r.p; entries = x ∷ r.entries; parts = ap (λ l. p ∷ l) r.parts; stand = (entry_sound p.bytes x e, r.stand); none = r.none; there = r.there }

bad_found : (ps : List Piece) (place : ℕ) → first_bad ps ≡ Some place → IsFirstBad ps place
bad_found [] place h = absurd (none-some place h)
bad_found (p ∷ ps) place h = bad_step p ps place (stands_for p) refl (bad_found ps place) h

none_here : (p : Piece) (o : Option Entry) → stands_for p ≡ o → ((e : Entry) → IsEntry p.bytes e → ⊥) → stands_for p ≡ None
none_here p None e h = e
none_here p (Some x) e h = absurd (h x (entry_sound p.bytes x e))

bad_is : (before after : List Piece) (p : Piece) (es : List Entry) → Stand before es → ((e : Entry) → IsEntry p.bytes e → ⊥) → first_bad (before ++ p ∷ after) ≡ Some p.place
bad_is [] after p es h k = rw (none_here p (stands_for p) refl k) refl
bad_is (q ∷ before) after p [] h k = absurd h
bad_is (q ∷ before) after p (e ∷ es) h k = rw (entry_complete q.bytes e h.0) (bad_is before after p es h.1 k)

-- ---- answers

reads_bad : (text : List ℕ) (place : ℕ) → first_bad (pieces_of text) ≡ Some place → Reads text (BadEvent place)
reads_bad text place h =
    let b = bad_found (pieces_of text) place h in
    subst (λ n. Reads text (BadEvent n)) b.there (bad b.before b.after b.p b.entries (subst (Pieces 0 text) b.parts (pieces_complete text)) b.stand b.none)

reads_counted : (text : List ℕ) (t : Bool) → ltb 200000 (total_of (entries_in (pieces_of text))) ≡ t → first_bad (pieces_of text) ≡ None → Reads text (cond t (TooMany (total_of (entries_in (pieces_of text)))) (Whole (entries_in (pieces_of text))))
reads_counted text true e h = many (pieces_of text) (entries_in (pieces_of text)) (pieces_complete text) (all_stand (pieces_of text) h) (ltb-true 200000 (total_of (entries_in (pieces_of text))) e)
reads_counted text false e h = whole (pieces_of text) (entries_in (pieces_of text)) (pieces_complete text) (all_stand (pieces_of text) h) (ltb-false 200000 (total_of (entries_in (pieces_of text))) e)

right_at : (text : List ℕ) (o : Option ℕ) → first_bad (pieces_of text) ≡ o → Reads text (by_bad o (entries_in (pieces_of text)))
right_at text (Some place) h = reads_bad text place h
right_at text None h = reads_counted text (ltb 200000 (total_of (entries_in (pieces_of text)))) refl h

-- what is read is an answer
pub right : (text : List ℕ) (a : Answer) → answer_of (pieces_of text) ≡ a → Reads text a
right text a e = subst (Reads text) e (right_at text (first_bad (pieces_of text)) refl)

read_of : (text : List ℕ) (ps : List Piece) → Pieces 0 text ps → ps ≡ pieces_of text
read_of text ps h = pieces_sound 0 text ps h

counted : (ps : List Piece) (es : List Entry) → Stand ps es → answer_of ps ≡ by_total es
counted ps es h = ap (λ o. by_bad o (entries_in ps)) (none_bad ps es h) ∙ ap by_total (their_entries ps es h)

only_at : (text : List ℕ) (a : Answer) → Reads text a → answer_of (pieces_of text) ≡ a
only_at text a (whole ps es h k few) = ap answer_of (sym (read_of text ps h)) ∙ counted ps es k ∙ ap (λ t. cond t (TooMany (total_of es)) (Whole es)) (le-ltb 200000 (total_of es) few)
only_at text a (many ps es h k more) = ap answer_of (sym (read_of text ps h)) ∙ counted ps es k ∙ ap (λ t. cond t (TooMany (total_of es)) (Whole es)) (lt-ltb 200000 (total_of es) more)
only_at text a (bad before after p es h k none) =
    let ps : List Piece = before ++ p ∷ after in
    ap answer_of (sym (read_of text ps h)) ∙ ap (λ o. by_bad o (entries_in ps)) (bad_is before after p es k none)

-- and no other is
pub only : (text : List ℕ) (a b : Answer) → answer_of (pieces_of text) ≡ a → Reads text b → a ≡ b
only text a b e h = sym e ∙ only_at text b h

-- ---- what the reading has found

pub bad_read : (text : List ℕ) (place : ℕ) → first_bad (pieces_of text) ≡ Some place → answer_of (pieces_of text) ≡ BadEvent place
bad_read text place h = ap (λ o. by_bad o (entries_in (pieces_of text))) h

pub many_read : (text : List ℕ) (entries : List Entry) (total : ℕ) → first_bad (pieces_of text) ≡ None → entries_in (pieces_of text) ≡ entries → total ≡ total_of entries → 200000 < total → answer_of (pieces_of text) ≡ TooMany total
many_read text entries total h e t more =
    let over : ltb 200000 (total_of entries) ≡ true = lt-ltb 200000 (total_of entries) (omega (arith, t, more)) in
    ap (λ o. by_bad o (entries_in (pieces_of text))) h ∙ ap by_total e ∙ ap (λ b. cond b (TooMany (total_of entries)) (Whole entries)) over ∙ ap TooMany (sym t)

pub whole_read : (text : List ℕ) (entries : List Entry) (total : ℕ) → first_bad (pieces_of text) ≡ None → entries_in (pieces_of text) ≡ entries → total ≡ total_of entries → total ≤ 200000 → answer_of (pieces_of text) ≡ Whole entries
whole_read text entries total h e t few =
    let under : ltb 200000 (total_of entries) ≡ false = le-ltb 200000 (total_of entries) (omega (arith, t, few)) in
    ap (λ o. by_bad o (entries_in (pieces_of text))) h ∙ ap by_total e ∙ ap (λ b. cond b (TooMany (total_of entries)) (Whole entries)) under
