use Rattle.std.proofs.Common.{◌∙◌, ◌+◌, refl, arith}
use Rattle.plain_job.specs.Plain.{job_of}
use Rattle.c3_top.specs.Run.{unfinished_from}
use Rattle.c3_top.proofs.Texts.{left_more, left_end}
use Rattle.c3_top.proofs.run.unfinished.Goals as goal

pub loop-rank-preserved : goal.loop-rank-preserved
loop-rank-preserved c =
    left_more (job_of c.args.job.now).ranks c.loop-rank.rank (c.loop-rank.rank + 1) c.loop-rank.text.items c.push_left.new.text.items (unfinished_from 0 (job_of c.args.job.now).ranks) (omega arith) refl c.in_ok-push_left.ensures c.loop-rank.invariant

pub returns : goal.returns
returns c = c.in_ok-append.ensures ∙ left_end (job_of c.args.job.now).ranks c.loop-rank.rank c.loop-rank.text.items (omega arith) c.loop-rank.invariant
