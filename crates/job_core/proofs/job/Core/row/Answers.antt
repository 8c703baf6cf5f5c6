use Rattle.std.proofs.Common.{◌≡◌, ◌<◌, ◌++◌, sym, refl, ap, ◌∙◌, arith}
use Rattle.std.proofs.lemmas.List.{append-nil}
use Rattle.core_laws.specs.CoreEvents.{below, row_events}
use Rattle.job_core.specs.Sweeping.{taken}
use Rattle.job_core.proofs.Sweeps.{row_then, still_now, still_then, swept_as}
use Rattle.job_core.proofs.job.Core.row.Goals as goal

pub loop-to-init : goal.loop-to-init
loop-to-init g c = (record { stands = c.requires.stands; events = refl; ranks = refl }, λ begin n first m es count kept are h. swept_as (sym (append-nil es)) h)

pub times-requires-clause-few : goal.times-requires-clause-few
times-requires-clause-few g c = omega (arith, c.loop-to.invariant.0.events, c.requires.few)

pub times-requires-clause-stands : goal.times-requires-clause-stands
times-requires-clause-stands g c = still_now g.P.Process.ended g.P.Process.bytes g.P.Process.among g.P.Process.serial g.P.Process.turned g.P.Process.answered g.P.Process.again c.args.self.now c.loop-to.self c.loop-to.invariant.0

pub loop-to-preserved : goal.loop-to-preserved
loop-to-preserved g c = (
  still_then g.P.Process.ended g.P.Process.bytes g.P.Process.among g.P.Process.serial g.P.Process.turned g.P.Process.answered g.P.Process.again c.args.self.now c.loop-to.self c.times.new.self c.loop-to.invariant.0 c.in_ok-times.ensures.stands c.in_ok-times.ensures.events c.in_ok-times.ensures.ranks,
  λ begin n first m es count kept are h.
      let e = taken c.args.traffic c.args.from in
      let was = c.loop-to.invariant.1 begin n first m es count kept are h in
      let inside : c.from.result < n = omega (arith, c.from.ensures, c.loop-to-test.true, c.requires.counts, are.size) in
      swept_as (row_then es e count c.loop-to.to _ (are.each c.from.result 0 inside ∙ ap count c.from.ensures)) (c.in_ok-times.ensures.comes begin n first m (es ++ row_events e count (below c.loop-to.to)) kept was),
)

pub returns-clause-comes : goal.returns-clause-comes
returns-clause-comes g c begin n first m es count kept are h =
    let all : c.loop-to.to ≡ n = omega (arith, c.loop-to-test.false, c.loop-to.auto.to-end, c.requires.counts, are.size) in
    swept_as (ap (λ z. es ++ row_events (taken c.args.traffic c.args.from) count (below z)) all) (c.loop-to.invariant.1 begin n first m es count kept are h)
