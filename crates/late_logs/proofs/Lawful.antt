-- A log has one text, and no text has two logs.
use Rattle.std.proofs.Common.{◌≡◌, ℕ, zero, suc, ◌+◌, ◌-◌, ◌*◌, ◌^◌, ◌≤◌, true, List, [], ◌∷◌, ◌++◌, Result, Ok, Err, refl, sym, ◌∙◌, ap, arith}
use Rattle.std.proofs.lemmas.List.{append_assoc}
use Rattle.std.specs.Prelude.{codes}
use Rattle.std.specs.Int.{w8, w16, w64}
use Rattle.mpi_words.specs.declared.message.Message.{Message}
use Rattle.file_fields.specs.Forms.{Form, Found, Pair, and_then, on_value, exactly, number, followed, counted}
use Rattle.file_fields.specs.Messages.{arrival_form}
use Rattle.file_fields.proofs.Laws.{AreBytes, IsFound, IsForm, exactly-form, number-form, followed-form, converted-form, counted-form, one_byte, two_bytes, eight_bytes}
use Rattle.file_fields.proofs.Lawful.{arrival-form}
use Rattle.file_fields.proofs.Messages.{below}
use Rattle.late_logs.specs.declared.entry.Entry.{Entry}
use Rattle.late_logs.specs.declared.entry.Entry.TheVariants.{Intra, Late}
use Rattle.late_logs.specs.declared.log.Log.{Log}
use Rattle.late_logs.specs.Texts.{u16_form, fits_entry, text_entry, read_entry, entry_form, log_form}

tag-form : IsForm (number w8 0 1)
tag-form = number-form w8 0 1 one_byte (omega arith)

u16-form : IsForm u16_form
u16-form = number-form w16 0 (2 ^ 16 - 1) two_bytes (omega arith)

-- the byte that says which it is
tagged : (tag : ℕ) (rest : List ℕ) → (number w8 0 1).fits tag ≡ true → tag ≤ 1 → (number w8 0 1).text tag ≡ tag ∷ [] → and_then ((number w8 0 1).read ((tag ∷ []) ++ rest)) read_entry ≡ read_entry tag rest
tagged tag rest fits few bytes =
    ap (λ (l : List ℕ). and_then ((number w8 0 1).read (l ++ rest)) read_entry) (sym bytes) ∙ ap (λ (r : Result (Found ℕ) (List ℕ)). and_then r read_entry) (tag-form.again tag rest fits)

zero_fits : (number w8 0 1).fits 0 ≡ true
unfolding number
zero_fits = refl

one_fits : (number w8 0 1).fits 1 ≡ true
unfolding number
one_fits = refl

zero_text : (number w8 0 1).text 0 ≡ 0 ∷ []
unfolding number
zero_text = refl

one_text : (number w8 0 1).text 1 ≡ 1 ∷ []
unfolding number
one_text = refl

byte_text : (tag : ℕ) → tag ≤ 1 → (number w8 0 1).text tag ≡ tag ∷ []
byte_text zero few = zero_text
byte_text (suc zero) few = one_text
byte_text (suc (suc n)) few = absurd (omega (arith, few))

entry-again : (x : Entry) (rest : List ℕ) → fits_entry x ≡ true → and_then ((number w8 0 1).read (text_entry x ++ rest)) read_entry ≡ Ok (record { value = x; rest = rest })
entry-again (Intra source) rest fits =
    ap (λ (l : List ℕ). and_then ((number w8 0 1).read l) read_entry) (append_assoc (0 ∷ []) (u16_form.text source) rest)
    ∙ tagged 0 (u16_form.text source ++ rest) zero_fits (omega arith) zero_text
    ∙ ap (λ (r : Result (Found ℕ) (List ℕ)). on_value (λ s. Intra s) r) (u16-form.again source rest fits)
entry-again (Late source message) rest fits =
    ap (λ (l : List ℕ). and_then ((number w8 0 1).read l) read_entry) (append_assoc (1 ∷ []) (arrival_form.text (source, message)) rest)
    ∙ tagged 1 (arrival_form.text (source, message) ++ rest) one_fits (omega arith) one_text
    ∙ ap (λ (r : Result (Found (ℕ × Message)) (List ℕ)). on_value (λ a. Late a.0 a.1) r) (arrival-form.again (source, message) rest fits)

entry-form : IsForm entry_form
unfolding entry_form
entry-form = record { again = entry-again; only = λ bytes are. step bytes ((number w8 0 1).read bytes) (tag-form.only bytes are) }
  where
    intra : (bytes rest : List ℕ) → bytes ≡ (0 ∷ []) ++ rest → (r : Result (Found ℕ) (List ℕ)) → IsFound u16_form rest r → IsFound entry_form bytes (on_value (λ s. Intra s) r)
    intra bytes rest is (Err left) found = tt
    intra bytes rest is (Ok s) found = (found.0, is ∙ ap (λ (l : List ℕ). (0 ∷ []) ++ l) found.1 ∙ sym (append_assoc (0 ∷ []) (u16_form.text s.value) s.rest), found.2)

    late : (bytes rest : List ℕ) → bytes ≡ (1 ∷ []) ++ rest → (r : Result (Found (ℕ × Message)) (List ℕ)) → IsFound arrival_form rest r → IsFound entry_form bytes (on_value (λ a. Late a.0 a.1) r)
    late bytes rest is (Err left) found = tt
    late bytes rest is (Ok a) found = (found.0, is ∙ ap (λ (l : List ℕ). (1 ∷ []) ++ l) found.1 ∙ sym (append_assoc (1 ∷ []) (arrival_form.text a.value) a.rest), found.2)

    which : (bytes rest : List ℕ) (tag : ℕ) → tag ≤ 1 → bytes ≡ (tag ∷ []) ++ rest → AreBytes rest → IsFound entry_form bytes (read_entry tag rest)
    which bytes rest zero few is are = intra bytes rest is (u16_form.read rest) (u16-form.only rest are)
    which bytes rest (suc zero) few is are = late bytes rest is (arrival_form.read rest) (arrival-form.only rest are)
    which bytes rest (suc (suc n)) few is are = absurd (omega (arith, few))

    step : (bytes : List ℕ) (r : Result (Found ℕ) (List ℕ)) → IsFound (number w8 0 1) bytes r → IsFound entry_form bytes (and_then r read_entry)
    step bytes (Err rest) found = tt
    step bytes (Ok tag) found =
        let few : tag.value ≤ 1 = below w8 0 1 tag.value found.0 in
        which bytes tag.rest tag.value few (found.1 ∙ ap (λ (l : List ℕ). l ++ tag.rest) (byte_text tag.value few)) found.2

-- a log, from its last fields on
abbrev stop_form : ℕ → Form (Pair ℕ (List Entry))
stop_form line = followed (number w64 0 (200000 * line + 200000)) (λ stop. counted entry_form)

abbrev Line : Type 0
Line = Pair ℕ (Pair ℕ (List Entry))

abbrev line_form : Form Line
line_form = followed u16_form (λ line. stop_form line)

abbrev ranks_form : Form (Pair ℕ (Pair ℕ Line))
ranks_form = followed u16_form (λ ranks. followed u16_form (λ rank. line_form))

abbrev Whole : Type 0
Whole = Pair (Unit {0}) (Pair (Unit {0}) (Pair ℕ (Pair ℕ Line)))

ranks-form : IsForm ranks_form
ranks-form = followed-form u16_form (λ ranks. followed u16_form (λ rank. line_form)) u16-form (λ ranks f.
    followed-form u16_form (λ rank. line_form) u16-form (λ rank g.
    followed-form u16_form (λ line. stop_form line) u16-form (λ line h.
    let few : line ≤ 65535 = below w16 0 (2 ^ 16 - 1) line h in
    followed-form (number w64 0 (200000 * line + 200000)) (λ stop. counted entry_form) (number-form w64 0 (200000 * line + 200000) eight_bytes (omega (arith, few))) (λ stop k.
    counted-form entry_form entry-form))))

pub log-form : IsForm log_form
unfolding log_form
log-form = converted-form
    (λ (p : Whole). record {
      ranks = p.second.second.first;
      rank = p.second.second.second.first;
      line = p.second.second.second.second.first;
      stop = p.second.second.second.second.second.first;
      entries = p.second.second.second.second.second.second;
    })
    (λ (l : Log). record {
      first = tt;
      second = record {
        first = tt;
        second = record {
          first = l.ranks;
          second = record {
            first = l.rank;
            second = record {
              first = l.line;
              second = record { first = l.stop; second = l.entries };
            };
          };
        };
      };
    })
    (followed (exactly (codes "C3LG")) (λ magic. followed (exactly (1 ∷ 0 ∷ [])) (λ format. ranks_form)))
    (followed-form (exactly (codes "C3LG")) (λ magic. followed (exactly (1 ∷ 0 ∷ [])) (λ format. ranks_form)) (exactly-form (codes "C3LG")) (λ magic f.
    followed-form (exactly (1 ∷ 0 ∷ [])) (λ format. ranks_form) (exactly-form (1 ∷ 0 ∷ [])) (λ format g. ranks-form)))
    (λ l. refl) (λ p fits. refl)
