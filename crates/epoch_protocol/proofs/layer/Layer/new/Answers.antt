use Rattle.std.proofs.Common.{◌≡◌, replicate, sym, ap, ◌∙◌, subst}
use Rattle.core_laws.specs.Ties.{Are}
use Rattle.core_laws.proofs.Tied.{are_all}
use Rattle.epoch_protocol.proofs.layer.Layer.new.Goals as goal

pub returns : goal.returns
returns c =
    let got : c.in_ok-early.early.items ≡ replicate c.args.ranks 0 = c.in_ok-early.ensures.items_if_clones_equal (λ y q. q) ∙ ap (λ m. replicate m 0) c.from.ensures in
    let skips : c.new-skips.result ≡ replicate c.args.ranks 0 = c.new-skips.ensures ∙ c.in_ok-from_elem.ensures.items_if_clones_equal (λ y q. q) ∙ ap (λ m. replicate m 0) c.from-2.ensures in
    c.with.ensures (λ x. 0) (λ x. 0) (subst (λ v. Are c.args.ranks v (λ x. 0)) (sym got) (are_all c.args.ranks 0)) (subst (λ v. Are c.args.ranks v (λ x. 0)) (sym skips) (are_all c.args.ranks 0))
