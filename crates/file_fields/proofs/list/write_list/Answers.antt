use Rattle.std.proofs.Common.{◌≡◌, ◌+◌, [], ◌∷◌, ◌++◌, length, take, get_or, sym, ◌∙◌, ap, arith, rules, w32}
use Rattle.std.proofs.lemmas.List.{take_more, take_all, append_assoc}
use Rattle.std.specs.Int.{to_le_bytes}
use Rattle.file_fields.specs.Forms.{text_each}
use Rattle.file_fields.proofs.Items.{counted-length, counted-fits, counted-text, text-push}
use Rattle.file_fields.proofs.list.write_list.Goals as goal

pub overflow_cast-items : goal.overflow_cast-items
overflow_cast-items g c = record { fits = counted-length g.T.Field.form c.args.items.now c.requires }

pub write-requires : goal.write-requires
write-requires g c =
    let items = c.args.items.now in
    let i = c.loop-item.item-index in
    let m = c.item-item.result in
    let item : get_or items i m ≡ m = search rules in
    ap g.T.Field.form.fits (sym item) ∙ counted-fits g.T.Field.form items c.requires i m (omega (arith, c.loop-item-test.true))

pub loop-item-preserved : goal.loop-item-preserved
loop-item-preserved g c =
    let F = g.T.Field.form in
    let items = c.args.items.now in
    let i = c.loop-item.item-index in
    let m = c.item-item.result in
    let item : get_or items i m ≡ m = search rules in
    let front : take (i + 1) items ≡ take i items ++ m ∷ [] = take_more items i m (omega (arith, c.loop-item-test.true)) ∙ ap (λ x. take i items ++ x ∷ []) item in
    c.in_ok-write.ensures ∙ ap (λ l. l ++ F.text m) c.loop-item.invariant ∙ append_assoc c.append.new.text.items (text_each (λ at. F) 0 (take i items)) (F.text m)
    ∙ ap (λ l. c.append.new.text.items ++ l) (sym (ap (text_each (λ at. F) 0) front ∙ text-push (λ at. F) 0 (take i items) m))

pub returns : goal.returns
returns g c =
    let F = g.T.Field.form in
    let items = c.args.items.now in
    let old = c.args.text.now.items in
    let size = to_le_bytes w32 (length items) in
    let all : take c.loop-item.item-index items ≡ items = take_all c.loop-item.item-index items (omega (arith, c.loop-item-test.false)) in
    c.loop-item.invariant ∙ ap (λ l. c.append.new.text.items ++ text_each (λ at. F) 0 l) all
    ∙ ap (λ l. l ++ text_each (λ at. F) 0 items) (c.in_ok-append.ensures ∙ ap (λ b. old ++ b) c.to_le_bytes.ensures)
    ∙ append_assoc old size (text_each (λ at. F) 0 items) ∙ ap (λ l. old ++ l) (sym (counted-text F items c.requires))
