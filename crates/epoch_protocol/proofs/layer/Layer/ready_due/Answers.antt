use Rattle.std.proofs.Common.{◌≡◌, None, replicate, vec_len, sym, ap, ◌∙◌, subst, arith}
use Rattle.epoch_protocol.specs.Layers.{Kept, IsLayer}
use Rattle.epoch_protocol.proofs.Counting.{not_due, due, none_alone}
use Rattle.epoch_protocol.proofs.layer.Layer.ready_due.Goals as goal

pub returns-then-not-is_ready : goal.returns-then-not-is_ready
returns-then-not-is_ready c n r l log h = not_due n r c.args.self.now l log (sym (c.is_ready.ensures n r l log h) ∙ c.if-not-is_ready.true) h

pub returns : goal.returns
returns c n r l log h =
    let k : Kept = record { ranks = c.self.inside.ranks; rank = c.self.inside.rank; epoch = c.self.inside.epoch; logging = c.self.inside.logging; asked = c.self.inside.asked; was_ready = c.self.inside.was_ready; sent = c.self.inside.sent.items; got = c.self.inside.got.items; before = c.self.inside.before.items; early = c.self.inside.early.items; told = c.self.inside.told.items; skip = c.self.inside.skips; log = c.self.inside.log } in
    let h' : IsLayer n r k l log = subst (λ x. IsLayer n r x l log) (sym c.self.view_is) h in
    let many : vec_len c.self.inside.told ≡ n = omega (arith, c.self.inside.told.ok.0, c.self.invariant.tolds, h'.ranks) in
    due n r k l log c.fill.new.self.items (sym (c.is_ready.ensures n r l log h) ∙ c.if-not-is_ready.false) (c.fill.ensures.items (none_alone _ (λ x q. q)) ∙ ap (λ m. replicate m None) many) h'
