use Rattle.std.proofs.Common.{◌≡◌, ◌+◌, sym, subst, arith}
use Rattle.core_laws.specs.Ties.{AreBy}
use Rattle.job_core.specs.Beginning.{IsBegun}
use Rattle.job_core.proofs.Beginnings.{are_push}
use Rattle.job_core.proofs.begin.members.Goals as goal

pub loop-rank-preserved : goal.loop-rank-preserved
loop-rank-preserved g c = subst (λ z. AreBy (IsBegun g.P.Process.ended g.P.Process.bytes g.P.Process.among g.P.Process.serial c.args.ranks) (c.loop-rank.rank + 1) z (λ r. g.P.Process.begun c.args.code.now.value r c.args.ranks)) (sym c.in_ok-push.ensures.items)
    (are_push (IsBegun g.P.Process.ended g.P.Process.bytes g.P.Process.among g.P.Process.serial c.args.ranks) c.loop-rank.rank c.loop-rank.members.items (λ r. g.P.Process.begun c.args.code.now.value r c.args.ranks) c.in_ok-member.field-0 c.in_ok-member.ensures c.loop-rank.invariant)

pub returns : goal.returns
returns g c =
    let all : c.loop-rank.rank ≡ c.args.ranks = omega (arith, c.loop-rank-test.false, c.loop-rank.auto.rank-end) in
    subst (λ z. AreBy (IsBegun g.P.Process.ended g.P.Process.bytes g.P.Process.among g.P.Process.serial c.args.ranks) z c.loop-rank.members.items (λ r. g.P.Process.begun c.args.code.now.value r c.args.ranks)) all c.loop-rank.invariant
