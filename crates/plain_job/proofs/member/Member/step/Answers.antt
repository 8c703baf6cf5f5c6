use Rattle.std.proofs.Common.{◌≡◌, None}
use Rattle.plain_job.specs.Turn.{is_possible}
use Rattle.plain_job.proofs.Operations.{never_went}
use Rattle.plain_job.proofs.member.Member.step.Goals as goal

pub returns-in-Some-clause-runs : goal.returns-in-Some-clause-runs
returns-in-Some-clause-runs c = never_went (c.operate.new.self.end ≡ None) c.operate.result (λ ranks. is_possible (record { ranks = ranks; queues = c.args.channels.now }) c.args.me c.in-Some.op) c.operate.ensures.progress
