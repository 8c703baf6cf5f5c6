use Rattle.std.proofs.Common.{sym, ◌∙◌, subst}
use Rattle.epoch_protocol.specs.Layers.{Kept, IsLayer}
use Rattle.epoch_protocol.proofs.Counting.{stopped, written}
use Rattle.epoch_protocol.proofs.layer.Layer.stop.Goals as goal

pub returns : goal.returns
returns c n r l log h =
    let k : Kept = record { ranks = c.self.inside.ranks; rank = c.self.inside.rank; epoch = c.self.inside.epoch; logging = c.self.inside.logging; asked = c.self.inside.asked; was_ready = c.self.inside.was_ready; sent = c.self.inside.sent.items; got = c.self.inside.got.items; before = c.self.inside.before.items; early = c.self.inside.early.items; told = c.self.inside.told.items; skip = c.self.inside.skips; log = c.self.inside.log } in
    let h' : IsLayer n r k l log = subst (λ x. IsLayer n r x l log) (sym c.self.view_is) h in
    (written n r k l log c.replace-entries.result c.args.ops c.replace-entries.ensures.value h', stopped n r k l log c.replace-entries.new.dest (c.replace-entries.ensures.after ∙ c.new.ensures) h')
