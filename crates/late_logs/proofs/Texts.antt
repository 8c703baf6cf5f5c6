-- Limits and texts of logs.
use Rattle.std.proofs.Common.{◌≡◌, ℕ, ◌+◌, ◌*◌, ◌&&◌, true, List, ◌++◌, ◌∙◌, ap}
use Rattle.std.proofs.lemmas.Bool.{and_parts}
use Rattle.std.proofs.lemmas.List.{append_assoc}
use Rattle.std.specs.Int.{w64}
use Rattle.file_fields.specs.Forms.{exactly, number, counted}
use Rattle.file_fields.specs.Messages.{message_form, arrival_form}
use Rattle.mpi_words.specs.declared.message.Message.{Message}
use Rattle.late_logs.specs.declared.log.Log.{Log}
use Rattle.late_logs.specs.Texts.{u16_form, entry_form, log_form}

-- one piece of a text, and the pieces behind it
pub put : (old piece rest mid new : List ℕ) → mid ≡ old ++ piece → new ≡ mid ++ rest → new ≡ old ++ (piece ++ rest)
put old piece rest mid new first last = last ∙ ap (λ l. l ++ rest) first ∙ append_assoc old piece rest

pub log-entries : (l : Log) → log_form.fits l ≡ true → (counted entry_form).fits l.entries ≡ true
unfolding log_form exactly
log-entries l fits =
    let entries = (counted entry_form).fits l.entries in
    let stop = (number w64 0 (200000 * l.line + 200000)).fits l.stop in
    let line = u16_form.fits l.line in
    let rank = u16_form.fits l.rank in
    let a = and_parts (u16_form.fits l.ranks) (rank && (line && (stop && entries))) fits in
    let b = and_parts rank (line && (stop && entries)) a.1 in
    let c = and_parts line (stop && entries) b.1 in
    (and_parts stop entries c.1).1

pub message-fits : (source : ℕ) (m : Message) → arrival_form.fits (source, m) ≡ true → message_form.fits m ≡ true
unfolding arrival_form
message-fits source m fits = (and_parts (u16_form.fits source) (message_form.fits m) fits).1
