use Rattle.std.proofs.Common.{false, ap, ◌∙◌, replicate}
use Rattle.core_laws.specs.Pausing.{stepping}
use Rattle.job_network.specs.Members.{stepping_of}
use Rattle.job_core.proofs.Beginnings.{core_begun, stands_begun}
use Rattle.job_core.proofs.job.Core.begin.Goals as goal

pub returns-clause-begins : goal.returns-clause-begins
returns-clause-begins g c = core_begun g.P.Process.ended g.P.Process.bytes g.P.Process.among g.P.Process.serial (stepping (stepping_of (λ r. g.P.Process.begun c.args.code.now.value r c.args.ranks) g.P.Process.turned g.P.Process.answered g.P.Process.again)) c.args.ranks _ c.in_ok-members.ensures (c.in_ok-killed.ensures.items_if_clones_equal (λ y e. e) ∙ ap (λ z. replicate z false) c.from.ensures) c.in_ok-network.ensures

pub returns-clause-stands : goal.returns-clause-stands
returns-clause-stands g c = stands_begun g.P.Process.ended g.P.Process.bytes g.P.Process.among g.P.Process.serial g.P.Process.turned g.P.Process.answered g.P.Process.again (λ r. g.P.Process.begun c.args.code.now.value r c.args.ranks) c.args.ranks _ c.requires.ranks c.in_ok-members.ensures (returns-clause-begins g c)
