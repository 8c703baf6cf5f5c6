-- What a job in the program is.
use Rattle.std.specs.Prelude.{ℕ, List, map}
use Rattle.c_kernel.specs.declared.program.Function.{Function}
use Rattle.plain_job.specs.Job.{Job}
use Rattle.plain_job.specs.Members.{rank_of}
use Rattle.plain_job.specs.declared.job.PlainJob.{PlainJob}

abbrev pub functions_of : PlainJob → List Function
functions_of job = job.program.value.functions

abbrev pub job_of : PlainJob → Job
job_of job = record { ranks = map rank_of job.members.items; queues = job.channels }

-- how many turns were made
abbrev pub turns_of : PlainJob → ℕ
turns_of job = job.turns
