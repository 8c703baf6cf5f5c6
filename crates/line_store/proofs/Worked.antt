-- A worked job and its ends.
use Rattle.std.proofs.Common.{◌≡◌, ℕ, List, [], ◌∷◌, Ok, Err, negsuc, refl}
use Rattle.file_fields.specs.Forms.{exactly, number, repeated, read_whole}
use Rattle.mpi_words.specs.declared.operation.End.{End}
use Rattle.mpi_words.specs.declared.operation.End.TheVariants.{Exit, Fault}
use Rattle.line_store.specs.declared.job.Job.{Job}
use Rattle.line_store.specs.Texts.{bytes, head_form, job_form, exit_form, end_form, ends_form}

job : Job
job = record { ranks = 2; text = 120 ∷ 59 ∷ [] }

job_bytes : List ℕ
job_bytes = 67 ∷ 51 ∷ 74 ∷ 66 ∷ 1 ∷ 0 ∷ 2 ∷ 0 ∷ 2 ∷ 0 ∷ 0 ∷ 0 ∷ 120 ∷ 59 ∷ []

job_written : job_form.text job ≡ job_bytes
unfolding job job_form head_form exactly number bytes job_bytes
job_written = refl

job_read : read_whole job_form job_bytes ≡ Ok job
unfolding job job_form head_form exactly number bytes job_bytes
job_read = refl

-- A program text that is too short is wrong at its first byte.
short : read_whole job_form (67 ∷ 51 ∷ 74 ∷ 66 ∷ 1 ∷ 0 ∷ 2 ∷ 0 ∷ 2 ∷ 0 ∷ 0 ∷ 0 ∷ 120 ∷ []) ≡ Err 12
unfolding job_form head_form exactly number bytes
short = refl

ends : List End
ends = Exit (negsuc 0) ∷ Fault 103 ∷ []

end_bytes : List ℕ
end_bytes = 67 ∷ 51 ∷ 69 ∷ 78 ∷ 2 ∷ 0 ∷ 0 ∷ 255 ∷ 255 ∷ 255 ∷ 255 ∷ 1 ∷ 103 ∷ 0 ∷ 0 ∷ 0 ∷ []

ends_written : (ends_form 2).text ends ≡ end_bytes
unfolding ends ends_form end_form exit_form exactly number repeated end_bytes
ends_written = refl

ends_read : read_whole (ends_form 2) end_bytes ≡ Ok ends
unfolding ends ends_form end_form exit_form exactly number repeated end_bytes
ends_read = refl
