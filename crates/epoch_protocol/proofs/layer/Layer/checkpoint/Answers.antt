use Rattle.std.proofs.Common.{◌≡◌, suc, ◌+◌, replicate, vec_len, sym, ap, ◌∙◌, subst, arith}
use Rattle.epoch_protocol.specs.Layers.{Kept, IsLayer}
use Rattle.epoch_protocol.proofs.Counting.{saved, told_each}
use Rattle.epoch_protocol.proofs.layer.Layer.checkpoint.Goals as goal

pub returns : goal.returns
returns c = record {
  ok = λ n r l log h.
      let k : Kept = record { ranks = c.self.inside.ranks; rank = c.self.inside.rank; epoch = c.self.inside.epoch; logging = c.self.inside.logging; asked = c.self.inside.asked; was_ready = c.self.inside.was_ready; sent = c.self.inside.sent.items; got = c.self.inside.got.items; before = c.self.inside.before.items; early = c.self.inside.early.items; told = c.self.inside.told.items; skip = c.self.inside.skips; log = c.self.inside.log } in
      let h' : IsLayer n r k l log = subst (λ x. IsLayer n r x l log) (sym c.self.view_is) h in
      let next : c.self.inside.epoch + 1 ≡ suc c.self.inside.epoch = omega arith in
      let sent : vec_len c.self.inside.sent ≡ n = omega (arith, c.self.inside.sent.ok.0, c.self.invariant.sents, h'.ranks) in
      let before : vec_len c.self.inside.before ≡ n = omega (arith, c.self.inside.before.ok.0, c.self.invariant.befores, h'.ranks) in
      let early : vec_len c.swap-2.new.y ≡ n = ap (λ v. vec_len v) (c.swap-2.ensures.y_after ∙ c.swap.ensures.y_after) ∙ before in (
        told_each n r k l log (c.self.inside.epoch + 1) c.in_ok-counts.counts.items (rw (← c.deref.ensures.value) c.in_ok-counts.ensures) next h',
        saved n r k l log c.new.result (c.self.inside.epoch + 1) c.fill-2.new.self.items c.swap-2.new.x.items c.swap.new.x.items c.fill.new.self.items next
            (c.fill-2.ensures.items (λ y q. q) ∙ ap (λ m. replicate m 0) sent)
            (ap (λ v. v.items) c.swap-2.ensures.x_after)
            (ap (λ v. v.items) c.swap.ensures.x_after)
            (c.fill.ensures.items (λ y q. q) ∙ ap (λ m. replicate m 0) early)
            c.new.ensures h',
      );
  err = tt;
}
