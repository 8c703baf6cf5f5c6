use Rattle.std.proofs.Common.{◌≡◌, ◌≤◌, length, take}
use Rattle.plain_job.specs.Job.{start_job}
use Rattle.plain_job.specs.Plain.{functions_of, job_of, turns_of}
use Rattle.c3_top.proofs.Turns.{Leads}
use Rattle.c3_top.proofs.run.run.Given as goal

abbrev pub invariant-loop-event : goal.invariant-loop-event
invariant-loop-event l = record {
  functions : functions_of l.job ≡ l.fn.program.functions;
  count : length (job_of l.job).ranks ≡ l.ranks;
  few : turns_of l.job ≤ l.event-index;
  turns : Leads l.fn.program.functions (start_job l.fn.program l.ranks) (take l.event-index l.event-items) (job_of l.job);
}
