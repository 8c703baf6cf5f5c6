use Rattle.std.proofs.Common.{arith}
use Rattle.line_store.specs.Texts.{job_form}
use Rattle.line_store.proofs.Lawful.{only-text, job-form}
use Rattle.line_store.proofs.job.read_job.Goals as goal

pub returns-clause-ok : goal.returns-clause-ok
returns-clause-ok c = only-text job_form job-form c.args.bytes.now (λ i. omega (arith, c.type_inv.bytes i)) c.in_ok-job.job c.in_ok-job.ensures.ok
