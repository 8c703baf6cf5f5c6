use Rattle.std.proofs.Common.{◌<◌, sym, refl, ◌∙◌, subst, arith}
use Rattle.core_laws.specs.Protocol as protocol
use Rattle.epoch_protocol.specs.Layers.{Kept, IsLayer}
use Rattle.epoch_protocol.proofs.Counting.{told_more}
use Rattle.epoch_protocol.proofs.layer.Layer.take_count.Goals as goal

pub returns-then-ready_due : goal.returns-then-ready_due
returns-then-ready_due c n r line l log h =
    let k : Kept = record { ranks = c.self.inside.ranks; rank = c.self.inside.rank; epoch = c.self.inside.epoch; logging = c.self.inside.logging; asked = c.self.inside.asked; was_ready = c.self.inside.was_ready; sent = c.self.inside.sent.items; got = c.self.inside.got.items; before = c.self.inside.before.items; early = c.self.inside.early.items; told = c.self.inside.told.items; skip = c.self.inside.skips; log = c.self.inside.log } in
    let h' : IsLayer n r k l log = subst (λ x. IsLayer n r x l log) (sym c.self.view_is) h in
    let inside : c.args.source < n = omega (arith, c.requires, h.ranks) in
    let after = c.ready_due.ensures n r (protocol.layer_told l c.args.source c.args.sent) log (told_more n r k l log c.args.source c.from.result c.args.sent inside c.from.ensures h') in
    (rw (sym after.0 ∙ c.if-ready_due.true) refl, after.1)

pub returns : goal.returns
returns c n r line l log h =
    let k : Kept = record { ranks = c.self.inside.ranks; rank = c.self.inside.rank; epoch = c.self.inside.epoch; logging = c.self.inside.logging; asked = c.self.inside.asked; was_ready = c.self.inside.was_ready; sent = c.self.inside.sent.items; got = c.self.inside.got.items; before = c.self.inside.before.items; early = c.self.inside.early.items; told = c.self.inside.told.items; skip = c.self.inside.skips; log = c.self.inside.log } in
    let h' : IsLayer n r k l log = subst (λ x. IsLayer n r x l log) (sym c.self.view_is) h in
    let inside : c.args.source < n = omega (arith, c.requires, h.ranks) in
    let after = c.ready_due.ensures n r (protocol.layer_told l c.args.source c.args.sent) log (told_more n r k l log c.args.source c.from.result c.args.sent inside c.from.ensures h') in
    (rw (sym after.0 ∙ c.if-ready_due.false) refl, after.1)
