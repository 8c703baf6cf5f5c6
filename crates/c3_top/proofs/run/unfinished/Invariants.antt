use Rattle.std.proofs.Common.{◌≡◌, ◌++◌, drop}
use Rattle.plain_job.specs.Plain.{job_of}
use Rattle.c3_top.specs.Run.{unfinished_from}
use Rattle.c3_top.proofs.run.unfinished.Given as goal

abbrev pub invariant-loop-rank : goal.invariant-loop-rank
invariant-loop-rank l = l.text.items ++ unfinished_from l.rank (drop l.rank (job_of l.job).ranks) ≡ unfinished_from 0 (job_of l.job).ranks
