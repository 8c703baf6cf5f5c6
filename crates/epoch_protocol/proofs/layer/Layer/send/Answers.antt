use Rattle.std.proofs.Common.{◌<◌, sym, ◌∙◌, subst, arith}
use Rattle.epoch_protocol.specs.Layers.{Kept, IsLayer}
use Rattle.epoch_protocol.proofs.Counting.{sent, left_out, goes_out}
use Rattle.epoch_protocol.proofs.layer.Layer.send.Goals as goal

pub returns-then-take : goal.returns-then-take
returns-then-take c n r l log h =
    let k : Kept = record { ranks = c.self.inside.ranks; rank = c.self.inside.rank; epoch = c.self.inside.epoch; logging = c.self.inside.logging; asked = c.self.inside.asked; was_ready = c.self.inside.was_ready; sent = c.self.inside.sent.items; got = c.self.inside.got.items; before = c.self.inside.before.items; early = c.self.inside.early.items; told = c.self.inside.told.items; skip = c.self.inside.skips; log = c.self.inside.log } in
    let h' : IsLayer n r k l log = subst (λ x. IsLayer n r x l log) (sym c.self.view_is) h in
    let inside : c.args.to < n = omega (arith, c.requires.inside, h.ranks) in
    (left_out n r k l log c.args.to inside h' (sym c.take.ensures.taken ∙ c.if-take.true), sent n r k l log c.args.to c.from.result c.index_mut.result.now c.take.new.self inside c.from.ensures c.index_mut.ensures.value c.take.ensures.left h')

pub returns : goal.returns
returns c n r l log h =
    let k : Kept = record { ranks = c.self.inside.ranks; rank = c.self.inside.rank; epoch = c.self.inside.epoch; logging = c.self.inside.logging; asked = c.self.inside.asked; was_ready = c.self.inside.was_ready; sent = c.self.inside.sent.items; got = c.self.inside.got.items; before = c.self.inside.before.items; early = c.self.inside.early.items; told = c.self.inside.told.items; skip = c.self.inside.skips; log = c.self.inside.log } in
    let h' : IsLayer n r k l log = subst (λ x. IsLayer n r x l log) (sym c.self.view_is) h in
    let inside : c.args.to < n = omega (arith, c.requires.inside, h.ranks) in
    (goes_out n r k l log c.args.to inside h' (sym c.take.ensures.taken ∙ c.if-take.false), sent n r k l log c.args.to c.from.result c.index_mut.result.now c.take.new.self inside c.from.ensures c.index_mut.ensures.value c.take.ensures.left h')
