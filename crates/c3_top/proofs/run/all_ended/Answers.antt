use Rattle.std.proofs.Common.{◌∙◌, ◌+◌, sym, refl, arith}
use Rattle.plain_job.specs.Job.{end_at}
use Rattle.plain_job.specs.Plain.{job_of}
use Rattle.c3_top.proofs.Texts.{none_told, one_runs, over_so_far, some_told}
use Rattle.c3_top.proofs.run.all_ended.Goals as goal

pub returns-then-is_none : goal.returns-then-is_none
returns-then-is_none c =
    sym (one_runs (job_of c.args.job.now).ranks c.loop-rank.rank (omega arith) (none_told c.end.result (end_at (job_of c.args.job.now) c.loop-rank.rank) c.is_none.result c.is_none.ensures c.if-is_none.true c.end.ensures)) ∙ c.loop-rank.invariant

pub loop-rank-preserved : goal.loop-rank-preserved
loop-rank-preserved c =
    over_so_far (job_of c.args.job.now).ranks c.loop-rank.rank (c.loop-rank.rank + 1) (omega arith) refl (some_told c.end.result (end_at (job_of c.args.job.now) c.loop-rank.rank) c.is_none.result c.is_none.ensures c.if-is_none.false c.end.ensures) c.loop-rank.invariant
