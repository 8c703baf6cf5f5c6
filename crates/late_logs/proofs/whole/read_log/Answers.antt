use Rattle.std.proofs.Common.{arith}
use Rattle.late_logs.specs.Texts.{log_form}
use Rattle.late_logs.proofs.Lawful.{log-form}
use Rattle.late_logs.proofs.Reading.{only-from}
use Rattle.late_logs.proofs.whole.read_log.Goals as goal

pub returns-clause-only : goal.returns-clause-only
returns-clause-only c = only-from log_form log-form c.args.bytes.now (λ i. omega (arith, c.type_inv.bytes i)) c.read_whole.result c.read_whole.ensures
