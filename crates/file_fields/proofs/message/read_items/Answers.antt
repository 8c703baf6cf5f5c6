use Rattle.std.proofs.Common.{◌≡◌, ◌+◌, ℤ, List, [], ◌∷◌, ◌++◌, Ok, sym, ◌∙◌, ap, subst, arith, rules, w64, to_z, of_z}
use Rattle.std.proofs.lemmas.Int.{to_z-of_z}
use mir.Val.{SFits}
use Rattle.std.proofs.lemmas.Result.{err_from_is_err_and}
use Rattle.file_fields.specs.Forms.{signed}
use Rattle.file_fields.specs.Messages.{least_item, most_item, item_form}
use Rattle.file_fields.specs.Reads.{Stopped}
use Rattle.file_fields.proofs.Items.{GoesOn, goes_on, stops-at}
use Rattle.file_fields.proofs.message.read_items.Goals as goal

pub returns-in_err-i64 : goal.returns-in_err-i64
returns-in_err-i64 c =
    let F = item_form c.args.context c.args.kind c.args.count in
    let range = c.item_range-least.result in
    let low : SFits w64 range.0 = search rules in
    let high : SFits w64 range.1 = search rules in
    let least_is : to_z w64 (of_z w64 range.0) ≡ least_item c.args.context c.args.kind c.args.count c.loop-at.at = to_z-of_z w64 range.0 low ∙ c.item_range-least.ensures.least in
    let most_is : to_z w64 (of_z w64 range.1) ≡ most_item c.args.context c.args.kind c.args.count c.loop-at.at = to_z-of_z w64 range.1 high ∙ c.item_range-least.ensures.most in
    let fault = c.in_err-i64.field-0.0 in
    let is : Stopped (F c.loop-at.at) c.loop-at.text c.i64.new.self fault =
    subst (λ (most : ℤ). Stopped (signed (least_item c.args.context c.args.kind c.args.count c.loop-at.at) most) c.loop-at.text c.i64.new.self fault) most_is
    (subst (λ (least : ℤ). Stopped (signed least (to_z w64 (of_z w64 range.1))) c.loop-at.text c.i64.new.self fault) least_is c.in_err-i64.ensures) in
    let p = err_from_is_err_and c.from_residual.result c.from_residual.ensures.1 in
    rw (p.1, p.2) (stops-at F c.args.count c.args.text.now c.loop-at.at c.loop-at.items c.loop-at.text c.i64.new.self fault (omega (arith, c.loop-at-test.true)) c.loop-at.invariant is)

pub loop-at-preserved : goal.loop-at-preserved
loop-at-preserved c =
    let F = item_form c.args.context c.args.kind c.args.count in
    let at = c.loop-at.at in
    let range = c.item_range-least.result in
    let low : SFits w64 range.0 = search rules in
    let high : SFits w64 range.1 = search rules in
    let least_is : to_z w64 (of_z w64 range.0) ≡ least_item c.args.context c.args.kind c.args.count c.loop-at.at = to_z-of_z w64 range.0 low ∙ c.item_range-least.ensures.least in
    let most_is : to_z w64 (of_z w64 range.1) ≡ most_item c.args.context c.args.kind c.args.count c.loop-at.at = to_z-of_z w64 range.1 high ∙ c.item_range-least.ensures.most in
    let x = c.in_ok-i64.field-0 in
    let fits : SFits w64 x = search rules in
    let is : (F at).read c.loop-at.text ≡ Ok (record { value = x; rest = c.i64.new.self }) =
    subst (λ (most : ℤ). (signed (least_item c.args.context c.args.kind c.args.count at) most).read c.loop-at.text ≡ Ok (record { value = x; rest = c.i64.new.self })) most_is
    (subst (λ (least : ℤ). (signed least (to_z w64 (of_z w64 range.1))).read c.loop-at.text ≡ Ok (record { value = x; rest = c.i64.new.self })) least_is c.in_ok-i64.ensures) in
    subst (λ (l : List ℤ). GoesOn F c.args.count c.args.text.now (at + 1) l c.i64.new.self) (sym (c.in_ok-push.ensures.ok ∙ ap (λ (z : ℤ). c.loop-at.items ++ z ∷ []) (to_z-of_z w64 x fits)))
    (goes_on F c.args.count c.args.text.now at c.loop-at.items c.loop-at.text x c.i64.new.self (omega (arith, c.loop-at-test.true)) c.loop-at.invariant is)
