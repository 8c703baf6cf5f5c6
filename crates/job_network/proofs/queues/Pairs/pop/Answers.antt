use Rattle.std.proofs.Common.{sym, subst}
use Rattle.std.proofs.lemmas.Option.{IfSome_then}
use Rattle.core_laws.specs.CoreTies.{Pairs}
use Rattle.job_network.proofs.Places.{popped}
use Rattle.job_network.proofs.queues.Pairs.pop.Goals as goal

pub returns-clause-some : goal.returns-clause-some
returns-clause-some g c n f h a b = IfSome_then c.pop.result c.pop.ensures.some
    (λ x p. popped n c.from.result c.args.from c.args.to c.self.inside.rows.items c.index_mut.result.now c.pop.new.self f x c.from.ensures c.index_mut.ensures.value a b (subst (λ z. Pairs n z f) (sym c.self.view_is) h) p)
