use Rattle.plain_job.proofs.member.Member.operate.Goals as goal

pub returns-in-Receive-clause-progress : goal.returns-in-Receive-clause-progress
returns-in-Receive-clause-progress c = rw c.in-Receive.is c.receive.ensures.progress
