use Rattle.std.proofs.Common.{◌∙◌, ◌+◌, ap, sym, drop, flat_map, drop_of_length-le}
use Rattle.flat_code.specs.Text.{targets}
use Rattle.flat_code.specs.Labels.{marked}
use Rattle.flat_code.proofs.Labels.{all_marked, next_marked}
use Rattle.flat_code.proofs.text.labels.labels.Goals as goal

pub loop-i-preserved : goal.loop-i-preserved
loop-i-preserved c =
    let rest = flat_map targets (drop (c.loop-i.i-index + 1) c.args.code.now) in
    ap (λ table. marked table rest) c.mark.ensures
    ∙ ap (λ i. marked (marked c.loop-i.labels.items (targets i)) rest) c.i-item.is
    ∙ next_marked c.args.code.now c.loop-i.i-index c.i-item.result c.loop-i.labels.items c.loop-i-test.true
    ∙ c.loop-i.invariant

pub returns : goal.returns
returns c k less =
    let none = drop_of_length-le c.args.code.now c.loop-i-test.false in
    all_marked c.args.code.now c.loop-i.labels.items k (ap (λ code. marked c.loop-i.labels.items (flat_map targets code)) (sym none) ∙ c.loop-i.invariant) less
