use Rattle.std.proofs.Common.{◌≡◌, ◌<◌, ◌+◌, ℕ, suc, Bool, true, not, sym, refl, ◌∙◌, subst, arith}
use Rattle.std.specs.Prelude.{◌&&◌, is_some}
use Rattle.core_laws.specs.Handling.{all_below}
use Rattle.core_laws.proofs.Tied.{all_below-fails}
use Rattle.job_core.proofs.job.Core.finished.Goals as goal

pub returns-then-not-has_ended : goal.returns-then-not-has_ended
returns-then-not-has_ended g c n first m h =
    let b : c.loop-rank.rank < n = omega (arith, c.loop-rank-test.true, h.ranks) in
    sym (all_below-fails n (λ r. not (m.killed r) && is_some (g.P.Process.ended (m.one r).rank.machine)) c.loop-rank.rank b (sym (c.has_ended.ensures n first m h) ∙ c.if-not-has_ended.true))

all_next : (n : ℕ) (f : ℕ → Bool) → f n ≡ true → all_below n f ≡ true → all_below (n + 1) f ≡ true
all_next n f e h = let next : suc n ≡ n + 1 = omega arith in subst (λ z. all_below z f ≡ true) next (rw (e, h) refl)

pub loop-rank-preserved : goal.loop-rank-preserved
loop-rank-preserved g c n first m h = all_next c.loop-rank.rank (λ r. not (m.killed r) && is_some (g.P.Process.ended (m.one r).rank.machine)) (sym (c.has_ended.ensures n first m h) ∙ c.if-not-has_ended.false) (c.loop-rank.invariant n first m h)

pub returns : goal.returns
returns g c n first m h =
    let all : c.loop-rank.rank ≡ n = omega (arith, c.loop-rank-test.false, c.loop-rank.auto.rank-end, h.ranks) in
    sym (subst (λ z. all_below z (λ r. not (m.killed r) && is_some (g.P.Process.ended (m.one r).rank.machine)) ≡ true) all (c.loop-rank.invariant n first m h))
