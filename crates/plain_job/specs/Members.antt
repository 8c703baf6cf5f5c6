-- What the ranks of a job in the program are.
use Rattle.std.specs.Prelude.{ℕ, Bool, true, false, List, Some, None, slice_set}
use Rattle.mpi_queues.specs.Pairs.{Queues}
use Rattle.c_kernel.specs.declared.program.Function.{Function}
use Rattle.c_meaning.specs.Rank as meaning
use Rattle.c_meaning.specs.State.{Outcome, Goes, Asks, Ends}
use Rattle.plain_job.specs.Job.{Runs, Ended, Rank, Job}
use Rattle.plain_job.specs.Turn.{is_possible}
use Rattle.plain_job.specs.declared.member.Member.{Member}
use Rattle.plain_job.specs.declared.member.Progress.{Progress}
use Rattle.plain_job.specs.declared.member.Progress.TheVariants.{Went, Waits, Stopped}

abbrev pub rank_of : Member → Rank
rank_of m = record { standing = elim m.end [ None ↦ Runs (meaning.state_of m.rank) | Some e ↦ Ended e ]; output = m.output.items; ops = m.ops }

-- what it runs
abbrev pub runs_of : Member → List Function
runs_of m = meaning.functions_of m.rank

-- the job with it as the k-th of these ranks, and these messages
abbrev pub job_with : List Rank → ℕ → Member → Queues → Job
job_with ranks k m queues = record { ranks = slice_set ranks k (rank_of m); queues = queues }

-- what a step comes to, by what the program does
abbrev pub progress_if : Bool → Progress
progress_if true = Stopped
progress_if false = Waits

abbrev pub progress : Job → ℕ → Outcome → Progress
progress job k (Goes began s) = Went
progress job k (Asks o s) = progress_if (is_possible job k o)
progress job k (Ends e) = Stopped

-- whether it ends a turn
abbrev pub ends : Progress → Bool
ends Went = false
ends Waits = true
ends Stopped = true

-- whether there was a step to make
abbrev pub had_step : Progress → Bool
had_step Went = true
had_step Waits = false
had_step Stopped = true
