use Rattle.std.proofs.Common.{◌+◌, ◌*◌, refl, ap, ◌∙◌, arith}
use Rattle.disk_model.proofs.Moments.{keeps_none, keeps_then}
use Rattle.line_store.proofs.Holding.{stable-more}
use Rattle.line_store.proofs.end.sync_outputs.Goals as goal

pub loop-rank-init : goal.loop-rank-init
loop-rank-init g c = record {
  keeps = λ told. keeps_none (g.D.Disk.view c.args.disk.now) (g.met.D.Disk.lawful c.args.disk.now told);
  stable = λ told r lt. absurd (omega (arith, lt));
  no_fault = refl;
}

pub returns-in_err-sync-clause-keeps : goal.returns-in_err-sync-clause-keeps
returns-in_err-sync-clause-keeps g c told = keeps_then (5 + 5 * c.from.result) _ _ _ (c.loop-rank.invariant.keeps told) (c.sync.ensures.steps told)

pub loop-rank-preserved : goal.loop-rank-preserved
loop-rank-preserved g c = record {
  keeps = λ told. keeps_then (5 + 5 * c.from.result) _ _ _ (c.loop-rank.invariant.keeps told) (c.sync.ensures.steps told);
  stable = λ told. stable-more (g.D.Disk.view c.loop-rank.disk) (g.D.Disk.view c.sync.new.self) (5 + 5 * c.from.result) c.loop-rank.rank (ap (λ k. 5 + 5 * k) c.from.ensures) (record { others = (c.sync.ensures.steps told).others; others_left = (c.sync.ensures.steps told).others_left }) (c.in_ok-sync.ensures.durable told) (c.loop-rank.invariant.stable told);
  no_fault = c.in_ok-sync.ensures.cause.kept ∙ c.loop-rank.invariant.no_fault;
}

pub returns-clause-stable : goal.returns-clause-stable
returns-clause-stable g c told r lt = c.loop-rank.invariant.stable told r (omega (arith, lt, c.loop-rank-test.false))
