use Rattle.std.proofs.Common.{◌≡◌, true, false, sym, ◌∙◌}
use Rattle.job_network.specs.Networks.{network_of}
use Rattle.job_network.proofs.Nets.{layer_there}
use Rattle.job_core.proofs.Turnings.{marked_only, marked_saved}
use Rattle.job_core.proofs.turns.mark.Goals as goal

pub saved-requires-clause-stands : goal.saved-requires-clause-stands
saved-requires-clause-stands g c =
    let n = c.requires.stands.0 in
    let p = c.requires.stands.1 in
    let logs = c.requires.stands.2 in
    let h = c.requires.stands.3 in
    let b = c.requires.stands.4.0 in
    let was = layer_there n (network_of c.args.network.now) p logs c.from.result c.args.rank c.index.result.now c.from.ensures c.index.ensures b h.stands in
    (n, p, logs, h, (b, (c.requires.stands.4.1 (sym was.asked ∙ sym c.asked.ensures ∙ c.if-not-asked.false)).line))

pub begin_epoch-requires : goal.begin_epoch-requires
begin_epoch-requires g c =
    let n = c.requires.stands.0 in
    let p = c.requires.stands.1 in
    let logs = c.requires.stands.2 in
    let h = c.requires.stands.3 in
    let b = c.requires.stands.4.0 in
    let was = layer_there n (network_of c.args.network.now) p logs c.from.result c.args.rank c.index.result.now c.from.ensures c.index.ensures b h.stands in
    (n, p, logs, h, (b, c.requires.stands.4.1 (sym was.asked ∙ sym c.asked.ensures ∙ c.if-not-asked.false)))

pub returns-then-not-asked : goal.returns-then-not-asked
returns-then-not-asked g c n p logs before k h b empty machine mail =
    let was = layer_there n (network_of c.args.network.now) p logs c.from.result c.args.rank c.index.result.now c.from.ensures c.index.ensures b h.stands in
    let asked : (p.layer c.args.rank).asked ≡ false = sym was.asked ∙ sym c.asked.ensures ∙ c.if-not-asked.true in
    rw c.new.ensures (marked_only g.P.Process.saved n c.args.rank c.args.member.now.ops p logs before k c.args.network.now asked h)

pub returns : goal.returns
returns g c n p logs before k h b empty machine mail =
    let was = layer_there n (network_of c.args.network.now) p logs c.from.result c.args.rank c.index.result.now c.from.ensures c.index.ensures b h.stands in
    let asked : (p.layer c.args.rank).asked ≡ true = sym was.asked ∙ sym c.asked.ensures ∙ c.if-not-asked.false in
    marked_saved g.P.Process.saved n c.args.rank c.args.member.now.ops p logs before k c.begin_epoch.new.network c.in_ok-effects.effects asked (c.in_ok-begin_epoch.ensures n p logs h b (empty asked))
    (λ line first at counted. c.in_ok-effects.ensures n p logs k line first h b machine mail at counted)
