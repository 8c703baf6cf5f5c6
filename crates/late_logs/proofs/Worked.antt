-- A worked log.
use Rattle.std.proofs.Common.{◌≡◌, ℕ, List, [], ◌∷◌, Ok, refl}
use Rattle.file_fields.specs.Forms.{exactly, number, repeated, counted, read_whole}
use Rattle.late_logs.specs.declared.log.Log.{Log}
use Rattle.late_logs.specs.Texts.{log_form}

bytes : List ℕ
bytes = 67 ∷ 51 ∷ 76 ∷ 71 ∷ 1 ∷ 0 ∷ 2 ∷ 0 ∷ 0 ∷ 0 ∷ 1 ∷ 0 ∷ 1 ∷ 0 ∷ 0 ∷ 0 ∷ 0 ∷ 0 ∷ 0 ∷ 0 ∷ 0 ∷ 0 ∷ 0 ∷ 0 ∷ []

log : Log
log = record { ranks = 2; rank = 0; line = 1; stop = 1; entries = [] }

written : log_form.text log ≡ bytes
unfolding log log_form exactly number repeated counted bytes
written = refl

read : read_whole log_form bytes ≡ Ok log
unfolding log log_form exactly number repeated counted bytes
read = refl
