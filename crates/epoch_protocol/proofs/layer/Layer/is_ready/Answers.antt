use Rattle.std.proofs.Common.{sym, ◌∙◌, subst}
use Rattle.epoch_protocol.specs.Layers.{Kept, IsLayer}
use Rattle.epoch_protocol.proofs.Counting.{is_due}
use Rattle.epoch_protocol.proofs.layer.Layer.is_ready.Goals as goal

pub returns : goal.returns
returns c n r l log h =
    let k : Kept = record { ranks = c.self.inside.ranks; rank = c.self.inside.rank; epoch = c.self.inside.epoch; logging = c.self.inside.logging; asked = c.self.inside.asked; was_ready = c.self.inside.was_ready; sent = c.self.inside.sent.items; got = c.self.inside.got.items; before = c.self.inside.before.items; early = c.self.inside.early.items; told = c.self.inside.told.items; skip = c.self.inside.skips; log = c.self.inside.log } in
    let h' : IsLayer n r k l log = subst (λ x. IsLayer n r x l log) (sym c.self.view_is) h in
    is_due n l c.all_told.result (sym h'.logging ∙ c.if-not-self.false) (sym h'.was_ready ∙ c.if-self.false) (c.all_told.ensures n l.told l.old (rw c.deref.ensures.value h'.told) (rw c.deref-2.ensures.value h'.before))
