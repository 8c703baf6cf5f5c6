-- The text of a log.
use Rattle.std.specs.Prelude.{ℕ, ◌+◌, ◌-◌, ◌*◌, ◌^◌, ◌==◌, if◌then◌else◌, Bool, List, [], ◌∷◌, ◌++◌, Result, codes}
use Rattle.std.specs.Int.{w8, w16, w64}
use Rattle.late_logs.specs.declared.entry.Entry.{Entry}
use Rattle.late_logs.specs.declared.entry.Entry.TheVariants.{Intra, Late}
use Rattle.late_logs.specs.declared.log.Log.{Log}
use Rattle.file_fields.specs.Forms.{Form, Found, and_then, on_value, exactly, number, followed, converted, counted}
use Rattle.file_fields.specs.Messages.{arrival_form}

abbrev pub u16_form : Form ℕ
u16_form = number w16 0 (2 ^ 16 - 1)

abbrev pub fits_entry : Entry → Bool
fits_entry (Intra source) = u16_form.fits source
fits_entry (Late source message) = arrival_form.fits (source, message)

abbrev pub text_entry : Entry → List ℕ
text_entry (Intra source) = (0 ∷ []) ++ u16_form.text source
text_entry (Late source message) = (1 ∷ []) ++ arrival_form.text (source, message)

abbrev pub read_entry : ℕ → List ℕ → Result (Found Entry) (List ℕ)
read_entry tag rest = if tag == 0 then on_value (λ source. Intra source) (u16_form.read rest) else on_value (λ a. Late a.0 a.1) (arrival_form.read rest)

-- 0 and a source, or 1 and a message from a source
unfoldable pub entry_form : Form Entry
entry_form = record { fits = fits_entry; text = text_entry; read = λ bytes. and_then ((number w8 0 1).read bytes) read_entry }

-- magic, format, ranks, rank, line, stop and entries
unfoldable pub log_form : Form Log
log_form = converted
    (λ p. record {
      ranks = p.second.second.first;
      rank = p.second.second.second.first;
      line = p.second.second.second.second.first;
      stop = p.second.second.second.second.second.first;
      entries = p.second.second.second.second.second.second;
    })
    (λ l. record {
      first = tt;
      second = record {
        first = tt;
        second = record {
          first = l.ranks;
          second = record {
            first = l.rank;
            second = record {
              first = l.line;
              second = record { first = l.stop; second = l.entries };
            };
          };
        };
      };
    })
    (followed (exactly (codes "C3LG")) (λ magic.
    followed (exactly (1 ∷ 0 ∷ [])) (λ format.
    followed u16_form (λ ranks.
    followed u16_form (λ rank.
    followed u16_form (λ line.
    followed (number w64 0 (200000 * line + 200000)) (λ stop.
    counted entry_form)))))))
