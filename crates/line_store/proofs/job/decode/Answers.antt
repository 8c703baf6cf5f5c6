use Rattle.std.proofs.Common.{◌≡◌, ◌-◌, ℕ, length, Result, Ok, Err, IfOk, IfErr, refl, sym, ◌∙◌, ap, subst, arith}
use Rattle.file_fields.specs.Reads.{Reads}
use Rattle.file_fields.specs.declared.reading.ReadFault.{ReadFault}
use Rattle.file_fields.specs.declared.reading.ReadFault.TheVariants.{Wrong}
use Rattle.line_store.specs.declared.job.Job.{Job}
use Rattle.line_store.specs.Answers.{NoText}
use Rattle.line_store.specs.Texts.{head_form}
use Rattle.line_store.proofs.Programs.{no-head, whole-from}
use Rattle.line_store.proofs.job.decode.Goals as goal

pub read_program-requires : goal.read_program-requires
read_program-requires c = omega (arith, c.saturating_sub-at.ensures)

pub returns-in-Ok-clause-ok : goal.returns-in-Ok-clause-ok
returns-in-Ok-clause-ok c =
    let all = c.args.bytes.now in
    let same = whole-from all c.read_head-head.new.text c.in-Ok.ranks c.in-Ok.count c.saturating_sub-at.result (λ i. omega (arith, c.type_inv.bytes i)) (ap head_form.read (sym c.new-text.ensures) ∙ c.in-Ok.ensures) (c.saturating_sub-at.ensures ∙ ap (λ n. length all - n) c.len.ensures) in
    subst (λ (x : Result Job ℕ). IfOk c.read_program.result (λ job. x ≡ Ok job)) same c.read_program.ensures.ok

pub returns-in-Ok-clause-err : goal.returns-in-Ok-clause-err
returns-in-Ok-clause-err c =
    let all = c.args.bytes.now in
    let same = whole-from all c.read_head-head.new.text c.in-Ok.ranks c.in-Ok.count c.saturating_sub-at.result (λ i. omega (arith, c.type_inv.bytes i)) (ap head_form.read (sym c.new-text.ensures) ∙ c.in-Ok.ensures) (c.saturating_sub-at.ensures ∙ ap (λ n. length all - n) c.len.ensures) in
    subst (λ (x : Result Job ℕ). IfErr c.read_program.result (NoText (λ file at. (file ≡ 0) × (x ≡ Err at)))) same c.read_program.ensures.err

pub returns-in-Err-Wrong-clause-err : goal.returns-in-Err-Wrong-clause-err
returns-in-Err-Wrong-clause-err c =
    let all = c.args.bytes.now in
    let rest = c.read_head-head.new.text in
    let fault : c.in-Err-Wrong.field-0 ≡ Wrong = rw c.in-Err-Wrong.is at c.in-Err-Wrong.field-0-is in
    let stopped : head_form.read c.new-text.result ≡ Err rest =
    subst (λ (r : Result (ℕ × ℕ) ReadFault). Reads head_form c.new-text.result rest r) (c.in-Err-Wrong.is ∙ ap (λ (f : ReadFault). Err f) fault) c.read_head-head.ensures in
    rw c.damaged.ensures (refl, no-head all rest (ap head_form.read (sym c.new-text.ensures) ∙ stopped) ∙ ap (λ n. Err n) (sym (c.saturating_sub-at.ensures ∙ ap (λ n. length all - n) c.len.ensures)))
