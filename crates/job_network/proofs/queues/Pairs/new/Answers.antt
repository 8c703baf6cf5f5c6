use Rattle.std.proofs.Common.{◌≡◌, ◌∙◌, [], replicate, subst, sym, ap, arith}
use Rattle.core_laws.specs.CoreTies.{Pairs}
use Rattle.job_network.proofs.Places.{none_there}
use Rattle.job_network.proofs.queues.Pairs.new.Goals as goal

pub returns : goal.returns
returns g c =
    let all : c.args.ranks ≡ c.loop.counter = omega arith in
    subst (λ z. Pairs c.args.ranks z (λ from to. [])) (sym (c.loop.invariant ∙ ap (λ m. replicate m (replicate c.args.ranks [])) (sym all))) (none_there c.args.ranks)
