use Rattle.std.proofs.Common.{◌+◌, refl, arith}
use Rattle.plain_job.specs.Plain.{job_of}
use Rattle.c3_top.specs.Run.{finished_from}
use Rattle.c3_top.proofs.Texts.{finished_more}
use Rattle.c3_top.proofs.run.finished.Goals as goal

pub loop-rank-preserved : goal.loop-rank-preserved
loop-rank-preserved c =
    finished_more (job_of c.args.job.now).ranks c.loop-rank.rank (c.loop-rank.rank + 1) c.loop-rank.text.items c.push_ended.new.text.items (finished_from 0 (job_of c.args.job.now).ranks) (omega arith) refl c.in_ok-push_ended.ensures c.loop-rank.invariant
