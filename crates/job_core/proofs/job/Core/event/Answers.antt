use Rattle.std.proofs.Common.{◌+◌}
use Rattle.core_laws.specs.Pausing.{stepping}
use Rattle.job_network.specs.Members.{stepping_of}
use Rattle.job_core.proofs.Nexts.{comes_counted, stands_counted}
use Rattle.job_core.proofs.job.Core.event.Goals as goal

pub returns-clause-comes : goal.returns-clause-comes
returns-clause-comes g c begin n first m e is kept h = comes_counted g.P.Process.ended g.P.Process.bytes g.P.Process.among g.P.Process.saved (stepping (stepping_of begin g.P.Process.turned g.P.Process.answered g.P.Process.again)) n first m e c.comes.new.self (c.comes.new.self.events + 1) c.in_ok-effects.effects (c.in_ok-effects.ensures.comes begin n first m e is kept h)

pub returns-clause-stands : goal.returns-clause-stands
returns-clause-stands g c = stands_counted g.P.Process.ended g.P.Process.bytes g.P.Process.among g.P.Process.serial g.P.Process.turned g.P.Process.answered g.P.Process.again _ c.comes.new.self (c.comes.new.self.events + 1) c.in_ok-effects.ensures.stands
