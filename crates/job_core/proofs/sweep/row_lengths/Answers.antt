use Rattle.std.proofs.Common.{◌≡◌, ◌+◌, length, sym, subst, arith}
use Rattle.core_laws.specs.Ties.{Are}
use Rattle.job_core.proofs.Beginnings.{are_push}
use Rattle.job_core.proofs.sweep.row_lengths.Goals as goal

pub loop-to-preserved : goal.loop-to-preserved
loop-to-preserved g c held h = subst (λ z. Are (c.loop-to.to + 1) z (λ to. length (held c.args.from to))) (sym c.in_ok-push.ensures.ok)
    (are_push (λ x y. x ≡ y) c.loop-to.to c.loop-to.row (λ to. length (held c.args.from to)) c.len.result (c.len.ensures c.args.ranks held h c.requires.from (omega (arith, c.loop-to-test.true))) (c.loop-to.invariant held h))

pub returns : goal.returns
returns g c held h =
    let all : c.loop-to.to ≡ c.args.ranks = omega (arith, c.loop-to-test.false, c.loop-to.auto.to-end) in
    subst (λ z. Are z c.loop-to.row (λ to. length (held c.args.from to))) all (c.loop-to.invariant held h)
