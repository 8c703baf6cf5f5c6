use Rattle.std.proofs.Common.{◌≡◌, ℕ, List, [], ◌++◌, length, take, ◌∙◌, ap, arith, rules, w16}
use Rattle.std.proofs.lemmas.List.{take_all}
use Rattle.std.specs.Prelude.{codes}
use Rattle.std.specs.Int.{to_le_bytes}
use Rattle.file_fields.specs.Forms.{exactly, number, repeated, text_each}
use Rattle.late_logs.proofs.Texts.{put}
use Rattle.mpi_words.specs.declared.operation.End.{End}
use Rattle.line_store.specs.Texts.{end_form, ends_form}
use Rattle.line_store.proofs.Programs.{end-more}
use Rattle.line_store.proofs.codes.write_ends.Goals as goal

pub loop-end-preserved : goal.loop-end-preserved
loop-end-preserved c = end-more c.append-2.new.text.items c.loop-end.text.items c.write_end.new.text.items c.args.ends.now c.loop-end.end-index _ c.loop-end-test.true (search rules) c.loop-end.invariant c.in_ok-write_end.ensures

pub returns : goal.returns
unfolding ends_form exactly number repeated
returns c =
    let ends = c.args.ends.now in
    let magic = codes "C3EN" in
    let count = to_le_bytes w16 (length ends) in
    let n1 = c.append.new.text.items in
    let n2 = c.append-2.new.text.items in
    let n3 = c.loop-end.text.items in
    let all : take c.loop-end.end-index ends ≡ ends = take_all c.loop-end.end-index ends (omega (arith, c.loop-end-test.false)) in
    let each : n3 ≡ n2 ++ text_each (λ at. end_form) 0 ends = c.loop-end.invariant ∙ ap (λ (l : List End). n2 ++ text_each (λ at. end_form) 0 l) all in
    let empty : c.new-text.result.items ≡ [] = c.new-text.ensures.items in
    put c.new-text.result.items magic (count ++ text_each (λ at. end_form) 0 ends) n1 n3 c.in_ok-append.ensures (put n1 count (text_each (λ at. end_form) 0 ends) n2 n3 (c.in_ok-append-2.ensures ∙ ap (λ (l : List ℕ). n1 ++ l) c.to_le_bytes.ensures) each)
    ∙ ap (λ (l : List ℕ). l ++ (magic ++ (count ++ text_each (λ at. end_form) 0 ends))) empty
