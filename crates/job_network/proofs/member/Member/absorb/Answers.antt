use Rattle.std.proofs.Common.{◌≡◌, ◌∷◌, false, refl, sym, ap, ◌∙◌, subst}
use Rattle.late_logs.specs.declared.entry.Entry.{Entry}
use Rattle.late_logs.specs.declared.entry.Entry.TheVariants.{Late}
use Rattle.core_laws.specs.Process.{arrive}
use Rattle.core_laws.specs.CoreTies.{IsRunning}
use Rattle.job_network.specs.Members.{begins_late, running_of}
use Rattle.job_network.proofs.Landings.{joins, late_lands, absorb_ends}
use Rattle.job_network.proofs.member.Member.absorb.Goals as goal

pub loop-self-init : goal.loop-self-init
loop-self-init g c = (λ v h. (v, h, refl), refl, refl)

pub loop-self-preserved-in-Late-1 : goal.loop-self-preserved-in-Late-1
loop-self-preserved-in-Late-1 g c =
    let popped : c.loop-self.self.log ≡ Late c.in-Some-Late.source c.in-Some-Late.message ∷ c.pop.new.self = c.in-Some-Late.ensures.some ∙ ap (λ (e : Entry). e ∷ c.pop.new.self) c.in-Some-Late.field-0-is in (
      λ v h. let was = c.loop-self.invariant.0 v h in (
        record { rank = arrive was.0.rank c.in-Some-Late.source c.in-Some-Late.message; log = c.pop.new.self; left = was.0.left },
        joins (running_of c.loop-self.self) was.0 c.in-Some-Late.source c.in-Some-Late.message c.arrive.new.self c.pop.new.self c.in_ok-arrive.ensures.ok was.1,
        late_lands (running_of c.loop-self.self) was.0 c.in-Some-Late.source c.in-Some-Late.message c.pop.new.self popped was.1 ∙ was.2,
      ),
      c.loop-self.invariant.1,
      c.loop-self.invariant.2,
    )

pub returns-clause-lands : goal.returns-clause-lands
returns-clause-lands g c v h =
    let was = c.loop-self.invariant.0 v h in
    let late : begins_late was.0.log ≡ false = ap begins_late (sym was.1.log) ∙ sym c.has_late.ensures ∙ c.loop-self-test.false in
    subst (IsRunning (running_of c.loop-self.self)) (sym (absorb_ends was.0.left was.0.rank was.0.log late) ∙ was.2) was.1

pub returns-clause-same : goal.returns-clause-same
returns-clause-same g c = (c.loop-self.invariant.1, c.loop-self.invariant.2)
