use Rattle.std.proofs.Common.{false, get_or, ap, sym, ◌∙◌}
use Rattle.wave_commit.proofs.Failing.{found, none_found}
use Rattle.wave_commit.proofs.wave.first_failing.Goals as goal

pub returns-then-not-flags-from : goal.returns-then-not-flags-from
returns-then-not-flags-from c n f h = found c.args.ranks c.args.flags.now c.loop-rank.rank c.requires c.loop-rank-test.true c.loop-rank.invariant (ap (λ k. get_or c.args.flags.now k false) (sym c.from.ensures) ∙ c.if-not-flags-from.true) n f h

pub returns : goal.returns
returns c n f h = sym (none_found c.args.ranks c.args.flags.now c.loop-rank.rank c.requires c.loop-rank-test.false c.loop-rank.auto.rank-end c.loop-rank.invariant n f h)
