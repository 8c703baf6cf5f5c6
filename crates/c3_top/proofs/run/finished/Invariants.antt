use Rattle.std.proofs.Common.{◌≡◌, ◌++◌, drop}
use Rattle.plain_job.specs.Plain.{job_of}
use Rattle.c3_top.specs.Run.{finished_from}
use Rattle.c3_top.proofs.run.finished.Given as goal

abbrev pub invariant-loop-rank : goal.invariant-loop-rank
invariant-loop-rank l = l.text.items ++ finished_from l.rank (drop l.rank (job_of l.job).ranks) ≡ finished_from 0 (job_of l.job).ranks
