use Rattle.std.proofs.Common.{◌≡◌, ℕ, ◌+◌, ℤ, pos, rules, List, [], ◌∷◌, ◌++◌, take, get_or, sym, ◌∙◌, ap, arith, w64}
use Rattle.std.proofs.lemmas.List.{take_more, append_assoc}
use Rattle.std.proofs.lemmas.Int.{to_z-of_z}
use mir.Val.{SFits}
use Rattle.std.specs.Int.{to_le_bytes, cast_unsigned}
use Rattle.file_fields.specs.Forms.{signed, text_each}
use Rattle.file_fields.specs.Messages.{item_form}
use Rattle.file_fields.proofs.Items.{text-push}
use Rattle.file_fields.proofs.message.write_items.Goals as goal

pub loop-item-preserved : goal.loop-item-preserved
unfolding signed
loop-item-preserved c context count kind =
    let F = item_form context kind count in
    let items = c.args.items.now in
    let old = c.args.text.now.items in
    let i = c.loop-item.item-index in
    let z = get_or items i (pos 0) in
    let fits : SFits w64 z = search rules in
    let bytes = to_le_bytes w64 (cast_unsigned w64 z) in
    let front : take (i + 1) items ≡ take i items ++ z ∷ [] = take_more items i (pos 0) (omega (arith, c.loop-item-test.true)) in
    let written : c.append.new.text.items ≡ c.loop-item.text.items ++ bytes = c.in_ok-append.ensures ∙ ap (λ (b : List ℕ). c.loop-item.text.items ++ b) (c.to_le_bytes.ensures ∙ ap (λ (n : ℤ). to_le_bytes w64 (cast_unsigned w64 n)) (to_z-of_z w64 z fits)) in
    written ∙ ap (λ (l : List ℕ). l ++ bytes) (c.loop-item.invariant context count kind) ∙ append_assoc old (text_each F 0 (take i items)) bytes
    ∙ ap (λ (l : List ℕ). old ++ l) (sym (ap (text_each F 0) front ∙ text-push F 0 (take i items) z))
