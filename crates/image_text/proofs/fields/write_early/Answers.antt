use Rattle.std.proofs.Common.{◌≡◌, ℕ, ◌+◌, List, [], ◌∷◌, ◌++◌, take, get_or, sym, ◌∙◌, ap, arith, w32}
use Rattle.std.proofs.lemmas.List.{take_more, append_assoc}
use Rattle.std.specs.Int.{to_le_bytes}
use Rattle.file_fields.specs.Forms.{number, text_each}
use Rattle.file_fields.proofs.Items.{text-push}
use Rattle.image_text.specs.Texts.{early_form}
use Rattle.image_text.proofs.fields.write_early.Goals as goal

pub loop-count-preserved : goal.loop-count-preserved
unfolding number
loop-count-preserved c =
    let counts = c.args.counts.now in
    let old = c.args.text.now.items in
    let i = c.loop-count.count-index in
    let z = get_or counts i 0 in
    let bytes = to_le_bytes w32 z in
    let front : take (i + 1) counts ≡ take i counts ++ z ∷ [] = take_more counts i 0 (omega (arith, c.loop-count-test.true)) in
    let written : c.append.new.text.items ≡ c.loop-count.text.items ++ bytes = c.in_ok-append.ensures ∙ ap (λ (b : List ℕ). c.loop-count.text.items ++ b) c.to_le_bytes.ensures in
    written ∙ ap (λ (l : List ℕ). l ++ bytes) c.loop-count.invariant ∙ append_assoc old (text_each early_form 0 (take i counts)) bytes
    ∙ ap (λ (l : List ℕ). old ++ l) (sym (ap (text_each early_form 0) front ∙ text-push early_form 0 (take i counts) z))
