use Rattle.std.proofs.Common.{◌<◌, length, sym, subst, ap, ◌∙◌}
use Rattle.std.proofs.lemmas.Result.{on_ok_weaker}
use Rattle.job_network.specs.Queues.{with_more}
use Rattle.job_network.proofs.Places.{pushed}
use Rattle.job_network.proofs.queues.Pairs.push.Goals as goal

pub returns : goal.returns
returns g c = on_ok_weaker c.push.result
    (λ e. pushed c.from.result c.args.from c.args.to c.self.inside.rows.items c.index_mut.result.now c.push.new.self c.args.item c.from.ensures c.index_mut.ensures.value (subst (λ z. c.args.from < length z) (sym c.self.view_is) c.requires.from) e
    ∙ ap (λ z. with_more z c.args.from c.args.to c.args.item) c.self.view_is)
    c.push.ensures
