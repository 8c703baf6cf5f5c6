use Rattle.std.proofs.Common.{◌≡◌, ℕ, List, [], ◌∷◌, ◌++◌, length, ◌∙◌, ap, arith, w16, w32}
use Rattle.std.specs.Prelude.{codes}
use Rattle.std.specs.Int.{to_le_bytes}
use Rattle.file_fields.specs.Forms.{exactly, number}
use Rattle.late_logs.proofs.Texts.{put}
use Rattle.line_store.specs.Texts.{bytes, head_form, job_form}
use Rattle.line_store.proofs.Programs.{job-limits}
use Rattle.line_store.proofs.job.write_job.Goals as goal

pub overflow_cast-program : goal.overflow_cast-program
overflow_cast-program c = record { fits = omega (arith, ap length c.as_slice-program.ensures, (job-limits c.args.job.now c.requires).1) }

pub returns : goal.returns
unfolding job_form head_form exactly number bytes
returns c =
    let job = c.args.job.now in
    let program = job.text in
    let magic = codes "C3JB" in
    let format : List ℕ = 1 ∷ 0 ∷ [] in
    let ranks = to_le_bytes w16 job.ranks in
    let size = to_le_bytes w32 (length program) in
    let n1 = c.append.new.text.items in
    let n2 = c.append-2.new.text.items in
    let n3 = c.append-3.new.text.items in
    let n4 = c.append-4.new.text.items in
    let seen : c.as_slice-program.result.now ≡ program = c.as_slice-program.ensures in
    let count = c.in_ok-append-4.ensures ∙ ap (λ (l : List ℕ). n3 ++ l) (c.to_le_bytes-2.ensures ∙ ap (λ (l : List ℕ). to_le_bytes w32 (length l)) seen) in
    let head = put c.new-text.result.items magic (format ++ (ranks ++ size)) n1 n4 c.in_ok-append.ensures
    (put n1 format (ranks ++ size) n2 n4 c.in_ok-append-2.ensures (put n2 ranks size n3 n4 (c.in_ok-append-3.ensures ∙ ap (λ (l : List ℕ). n2 ++ l) c.to_le_bytes.ensures) count)) in
    c.in_ok-append-5.ensures ∙ ap (λ (l : List ℕ). n4 ++ l) seen ∙ ap (λ (l : List ℕ). l ++ program) head ∙ ap (λ (l : List ℕ). (l ++ (magic ++ (format ++ (ranks ++ size)))) ++ program) c.new-text.ensures.items
