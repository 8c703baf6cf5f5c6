use Rattle.std.proofs.Common.{not, ap, ◌∙◌, subst}
use Rattle.std.specs.Prelude.{OnOk}
use Rattle.core_laws.specs.Process as ranks
use Rattle.core_laws.specs.CoreTies.{IsRunning}
use Rattle.job_network.specs.Members.{running_of}
use Rattle.job_network.proofs.Places.{when_some, when_none}
use Rattle.job_network.proofs.Landings.{joins, lands, lands_alone}
use Rattle.job_network.proofs.member.Member.arrive.Goals as goal

pub returns-then-is_none-clause-lands : goal.returns-then-is_none-clause-lands
returns-then-is_none-clause-lands g c v h =
    let ends = when_none c.pop.result (c.is_none.ensures ∙ ap not c.if-is_none.true) c.pop.ensures.none in
    lands_alone (running_of c.args.self.now) v c.args.source c.args.message c.arrive.new.self c.pop.new.self c.in_ok-arrive.ensures.ok ends.0 ends.1 h

pub returns-clause-lands : goal.returns-clause-lands
returns-clause-lands g c v h =
    let goes_on = when_some c.pop.result (c.is_none.ensures ∙ ap not c.if-is_none.false) c.pop.ensures.some in
    subst (λ u. OnOk c.absorb.result (IsRunning (running_of c.absorb.new.self) u)) (lands (running_of c.args.self.now) v c.args.source c.args.message goes_on.0 c.pop.new.self goes_on.1 h)
    (c.absorb.ensures.lands (record { rank = ranks.arrive v.rank c.args.source c.args.message; log = c.pop.new.self; left = v.left }) (joins (running_of c.args.self.now) v c.args.source c.args.message c.arrive.new.self c.pop.new.self c.in_ok-arrive.ensures.ok h))
