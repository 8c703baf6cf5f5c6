use Rattle.std.proofs.Common.{◌≡◌, drop}
use Rattle.plain_job.specs.Plain.{job_of}
use Rattle.c3_top.specs.Run.{all_ended}
use Rattle.c3_top.proofs.run.all_ended.Given as goal

abbrev pub invariant-loop-rank : goal.invariant-loop-rank
invariant-loop-rank l = all_ended (drop l.rank (job_of l.job).ranks) ≡ all_ended (job_of l.job).ranks
