use Rattle.std.proofs.Common.{◌≡◌, ◌+◌, length, sym, subst, arith}
use Rattle.core_laws.specs.Ties.{AreBy, Are}
use Rattle.job_core.proofs.Beginnings.{are_push}
use Rattle.job_core.proofs.sweep.lengths.Goals as goal

pub loop-from-preserved : goal.loop-from-preserved
loop-from-preserved g c held h = subst (λ z. AreBy (Are c.args.ranks) (c.loop-from.from + 1) z (λ from to. length (held from to))) (sym c.in_ok-push.ensures.ok)
    (are_push (Are c.args.ranks) c.loop-from.from c.loop-from.rows (λ from to. length (held from to)) c.in_ok-row_lengths.field-0 (c.in_ok-row_lengths.ensures held h) (c.loop-from.invariant held h))

pub returns : goal.returns
returns g c held h =
    let all : c.loop-from.from ≡ c.args.ranks = omega (arith, c.loop-from-test.false, c.loop-from.auto.from-end) in
    subst (λ z. AreBy (Are c.args.ranks) z c.loop-from.rows (λ from to. length (held from to))) all (c.loop-from.invariant held h)
