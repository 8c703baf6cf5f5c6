use Rattle.std.proofs.Common.{◌≡◌, map, sym, subst, arith}
use Rattle.std.specs.List.{range_with_len}
use Rattle.std.specs.Prelude.{All}
use Rattle.plain_job.specs.Job.{first}
use Rattle.plain_job.specs.Members.{rank_of, runs_of}
use Rattle.plain_job.proofs.Ranks.{pushed_all, pushed_ranks, numbers_same}
use Rattle.plain_job.proofs.Rooms.{pushed_first}
use Rattle.plain_job.proofs.job.PlainJob.new.Goals as goal

pub loop-rank-preserved : goal.loop-rank-preserved
loop-rank-preserved c =
    let p = c.args.program.now.value in
    record {
      functions = pushed_all p.functions c.loop-rank.members.items c.push.new.self.items c.in_ok-new.field-0 c.in_ok-push.ensures.items c.loop-rank.invariant.functions c.in_ok-new.ensures.functions;
      ranks = pushed_ranks p c.args.n c.loop-rank.rank c.loop-rank.members.items c.push.new.self.items c.in_ok-new.field-0 c.in_ok-push.ensures.items c.loop-rank.invariant.ranks c.in_ok-new.ensures.start;
      starts = pushed_first p c.args.n c.loop-rank.rank c.loop-rank.members.items c.push.new.self.items c.in_ok-new.field-0 c.requires c.in_ok-push.ensures.items c.loop-rank.invariant.starts c.in_ok-new.ensures.start;
    }

pub invariant_of-result-clause-numbers : goal.invariant_of-result-clause-numbers
invariant_of-result-clause-numbers c =
    let p = c.args.program.now.value in
    let all : c.loop-rank.rank ≡ c.args.n = omega arith in
    numbers_same p c.args.n c.loop-rank.members.items c.in_ok-channels.channels (subst (λ k. map rank_of c.loop-rank.members.items ≡ map (first p c.args.n) (range_with_len 0 k)) all c.loop-rank.invariant.ranks) c.in_ok-channels.ensures

pub invariant_of-result-clause-same : goal.invariant_of-result-clause-same
invariant_of-result-clause-same c = ∣ subst (λ p. All (λ m. runs_of m ≡ p.functions) c.loop-rank.members.items) (sym c.in_ok-program.ensures.cases) c.loop-rank.invariant.functions ∣₁

pub invariant_of-result-clause-within : goal.invariant_of-result-clause-within
invariant_of-result-clause-within c = λ few. ∣ c.loop-rank.invariant.starts ∣₁
