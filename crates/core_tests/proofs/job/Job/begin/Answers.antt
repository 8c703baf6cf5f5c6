use Rattle.std.proofs.Common.{sym, subst}
use Rattle.job_core.specs.Cores.{StandsSo}
use Rattle.core_tests.specs.Script.{ended, bytes, among, serial, turned, answered}
use Rattle.core_tests.specs.Again.{again}
use Rattle.core_tests.proofs.job.Job.begin.Goals as goal

pub invariant_of-result : goal.invariant_of-result
invariant_of-result g c = subst (λ events. StandsSo ended bytes among serial turned answered again events c.in_ok-begin.field-0) (sym c.in_ok-begin.ensures.events) c.in_ok-begin.ensures.stands
