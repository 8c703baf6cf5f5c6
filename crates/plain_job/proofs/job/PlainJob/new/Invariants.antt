use Rattle.std.proofs.Common.{◌≡◌, map}
use Rattle.std.specs.List.{range_with_len}
use Rattle.std.specs.Prelude.{All}
use Rattle.plain_job.specs.Job.{first}
use Rattle.plain_job.specs.Members.{rank_of, runs_of}
use Rattle.plain_job.specs.Serials.{IsAfter}
use Rattle.plain_job.proofs.job.PlainJob.new.Given as goal

abbrev pub invariant-loop-rank : goal.invariant-loop-rank
invariant-loop-rank l = record {
  functions : All (λ m. runs_of m ≡ l.program.value.functions) l.members.items;
  ranks : map rank_of l.members.items ≡ map (first l.program.value l.n) (range_with_len 0 l.rank);
  starts : All (λ m. IsAfter 0 (rank_of m)) l.members.items;
}
