use Rattle.std.proofs.Common.{◌≡◌, sym, ap, ◌∙◌, subst}
use Rattle.core_laws.specs.Protocol as protocol
use Rattle.epoch_protocol.specs.Layers.{Kept, IsLayer, log_after, met_as, counted_as}
use Rattle.epoch_protocol.proofs.Counting.{logged}
use Rattle.epoch_protocol.proofs.Meeting.{counted}
use Rattle.epoch_protocol.proofs.layer.Layer.arrive.Goals as goal

pub returns : goal.returns
returns c = record {
  ok = λ n r l log h.
      let k : Kept = record { ranks = c.self.inside.ranks; rank = c.self.inside.rank; epoch = c.self.inside.epoch; logging = c.self.inside.logging; asked = c.self.inside.asked; was_ready = c.self.inside.was_ready; sent = c.self.inside.sent.items; got = c.self.inside.got.items; before = c.self.inside.before.items; early = c.self.inside.early.items; told = c.self.inside.told.items; skip = c.self.inside.skips; log = c.self.inside.log } in
      let h' : IsLayer n r k l log = subst (λ x. IsLayer n r x l log) (sym c.self.view_is) h in
      let met : c.classify-class.result ≡ met_as l c.args.label = c.classify-class.ensures n r l log h in
      let now = c.count.ensures n r l (log_after l.logging (met_as l c.args.label) log c.args.source c.args.message.now) (logged n r k l log c.log_arrival.new.log c.classify-class.result c.args.label c.args.source c.args.message.now met c.in_ok-log_arrival.ensures.ok h') in
      (met, subst (λ x. IsLayer n r c.count.new.self (protocol.layer_arrive l c.args.source x) (log_after l.logging (met_as l c.args.label) log c.args.source c.args.message.now)) (ap counted_as met ∙ counted l c.args.label) now);
  err = tt;
}
