use Rattle.std.proofs.Common.{◌≡◌, ◌<◌, ◌++◌, length, get_or, sym, refl, ap, ◌∙◌, subst, arith}
use Rattle.std.proofs.lemmas.List.{append-nil}
use Rattle.core_laws.specs.CoreEvents.{below, pair_events}
use Rattle.core_laws.specs.Ties.{Are}
use Rattle.job_core.specs.Sweeping.{taken}
use Rattle.job_core.proofs.Sweeps.{pairs_then, still_now, still_then, swept_as}
use Rattle.job_core.proofs.job.Core.pairs.Goals as goal

pub loop-from-init : goal.loop-from-init
loop-from-init g c = (record { stands = c.requires.stands; events = refl; ranks = refl }, λ begin n first m es count kept are h. swept_as (sym (append-nil es)) h)

pub row-requires-clause-few : goal.row-requires-clause-few
row-requires-clause-few g c = omega (arith, c.loop-from.invariant.0.events, c.requires.few)

pub row-requires-clause-stands : goal.row-requires-clause-stands
row-requires-clause-stands g c = still_now g.P.Process.ended g.P.Process.bytes g.P.Process.among g.P.Process.serial g.P.Process.turned g.P.Process.answered g.P.Process.again c.args.self.now c.loop-from.self c.loop-from.invariant.0

pub row-requires-clause-counts : goal.row-requires-clause-counts
row-requires-clause-counts g c =
    let inside : c.from.result < c.args.self.now.network.ranks = omega (arith, c.from.ensures, c.loop-from-test.true) in
    ap length (c.as_slice.ensures ∙ c.index-counts-from.is) ∙ (c.requires.counts.1.each c.from.result c.index-counts-from.result inside).size ∙ sym c.loop-from.invariant.0.ranks

pub loop-from-preserved : goal.loop-from-preserved
loop-from-preserved g c = (
  still_then g.P.Process.ended g.P.Process.bytes g.P.Process.among g.P.Process.serial g.P.Process.turned g.P.Process.answered g.P.Process.again c.args.self.now c.loop-from.self c.row.new.self c.loop-from.invariant.0 c.in_ok-row.ensures.stands c.in_ok-row.ensures.events c.in_ok-row.ensures.ranks,
  λ begin n first m es count kept are h.
      let at = c.loop-from.from in
      let inside : c.from.result < n = omega (arith, c.from.ensures, c.loop-from-test.true, c.requires.counts.1.size, are.size) in
      let here : Are n c.as_slice.result.now (count at) = subst (λ z. Are n z (count at)) (sym (c.as_slice.ensures ∙ c.index-counts-from.is)) (subst (λ z. Are n (get_or c.args.counts.now c.from.result c.index-counts-from.result) (count z)) c.from.ensures (are.each c.from.result c.index-counts-from.result inside)) in
      let was = c.loop-from.invariant.1 begin n first m es count kept are h in
      swept_as (pairs_then n es (taken c.args.traffic) count at) (c.in_ok-row.ensures.comes begin n first m (es ++ pair_events n (taken c.args.traffic) count (below at)) (count at) kept here was),
)

pub returns-clause-comes : goal.returns-clause-comes
returns-clause-comes g c begin n first m es count kept are h =
    let all : c.loop-from.from ≡ n = omega (arith, c.loop-from-test.false, c.loop-from.auto.from-end, c.requires.counts.1.size, are.size) in
    swept_as (ap (λ z. es ++ pair_events n (taken c.args.traffic) count (below z)) all) (c.loop-from.invariant.1 begin n first m es count kept are h)
