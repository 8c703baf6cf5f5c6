use Rattle.std.proofs.Common.{◌<◌, sym, subst, arith, ⊎_elim}
use Rattle.epoch_protocol.specs.Layers.{Kept, IsLayer}
use Rattle.epoch_protocol.proofs.Counting.{came_late, came_intra, came_early}
use Rattle.epoch_protocol.proofs.layer.Layer.count.Goals as goal

pub returns-in-Late : goal.returns-in-Late
returns-in-Late c n r l log h =
    let k : Kept = record { ranks = c.self.inside.ranks; rank = c.self.inside.rank; epoch = c.self.inside.epoch; logging = c.self.inside.logging; asked = c.self.inside.asked; was_ready = c.self.inside.was_ready; sent = c.self.inside.sent.items; got = c.self.inside.got.items; before = c.self.inside.before.items; early = c.self.inside.early.items; told = c.self.inside.told.items; skip = c.self.inside.skips; log = c.self.inside.log } in
    let h' : IsLayer n r k l log = subst (λ x. IsLayer n r x l log) (sym c.self.view_is) h in
    let inside : c.args.source < n = omega (arith, c.requires.inside, h.ranks) in
    rw c.in-Late.is (came_late n r k l log c.args.source c.from-at.result c.index_mut.result.now inside c.from-at.ensures c.index_mut.ensures.value h')

pub returns-in-Intra : goal.returns-in-Intra
returns-in-Intra c n r l log h =
    let k : Kept = record { ranks = c.self.inside.ranks; rank = c.self.inside.rank; epoch = c.self.inside.epoch; logging = c.self.inside.logging; asked = c.self.inside.asked; was_ready = c.self.inside.was_ready; sent = c.self.inside.sent.items; got = c.self.inside.got.items; before = c.self.inside.before.items; early = c.self.inside.early.items; told = c.self.inside.told.items; skip = c.self.inside.skips; log = c.self.inside.log } in
    let h' : IsLayer n r k l log = subst (λ x. IsLayer n r x l log) (sym c.self.view_is) h in
    let inside : c.args.source < n = omega (arith, c.requires.inside, h.ranks) in
    let new = came_intra n r k l log c.args.source c.from-at.result c.index_mut-in-Intra.result.now inside c.from-at.ensures c.index_mut-in-Intra.ensures.value h' in
    ⊎_elim (λ e. rw e new) (λ e. rw e new) c.in-Intra.is

pub returns-in-Early : goal.returns-in-Early
returns-in-Early c n r l log h =
    let k : Kept = record { ranks = c.self.inside.ranks; rank = c.self.inside.rank; epoch = c.self.inside.epoch; logging = c.self.inside.logging; asked = c.self.inside.asked; was_ready = c.self.inside.was_ready; sent = c.self.inside.sent.items; got = c.self.inside.got.items; before = c.self.inside.before.items; early = c.self.inside.early.items; told = c.self.inside.told.items; skip = c.self.inside.skips; log = c.self.inside.log } in
    let h' : IsLayer n r k l log = subst (λ x. IsLayer n r x l log) (sym c.self.view_is) h in
    let inside : c.args.source < n = omega (arith, c.requires.inside, h.ranks) in
    rw c.in-Early.is (came_early n r k l log c.args.source c.from-at.result c.index_mut-in-Early.result.now inside c.from-at.ensures c.index_mut-in-Early.ensures.value h')
