use Rattle.std.proofs.Common.{◌≡◌, ◌<◌, List, None, length}
use Rattle.plain_job.specs.Job.{Rank, Job}
use Rattle.plain_job.specs.Members.{rank_of, runs_of, job_with}
use Rattle.plain_job.specs.Serials.{HasRoom}
use Rattle.plain_job.specs.Turn.{Steps, IsTurn}
use Rattle.plain_job.proofs.member.Member.steps.Given as goal

abbrev pub invariant-loop : goal.invariant-loop
invariant-loop l = record {
  functions : runs_of l.self ≡ runs_of l.fn.self;
  numbers : length l.channels ≡ length l.fn.channels;
  runs : l.self.end ≡ None;
  room : ∥ HasRoom l.left (rank_of l.self) ∥₁;
  so_far : (ranks : List Rank) (after : Job) → l.fn.me < length ranks → Steps (runs_of l.fn.self) l.fn.me l.left (job_with ranks l.fn.me l.self l.channels) after → IsTurn (runs_of l.fn.self) (job_with ranks l.fn.me l.fn.self l.fn.channels) l.fn.me after;
}
