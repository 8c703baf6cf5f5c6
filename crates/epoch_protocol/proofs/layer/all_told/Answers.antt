use Rattle.std.proofs.Common.{None, get_or, ap, sym, ◌∙◌}
use Rattle.epoch_protocol.proofs.Telling.{one_untold, all_are_told}
use Rattle.epoch_protocol.proofs.layer.all_told.Goals as goal

pub returns-then-not-is_told : goal.returns-then-not-is_told
returns-then-not-is_told c n its come h g = one_untold c.args.ranks c.args.told.now c.args.old.now c.loop-rank.rank (get_or c.args.told.now c.from-at.result None) (get_or c.args.old.now c.from-at.result 0) c.requires.told c.loop-rank-test.true (ap (λ x. get_or c.args.told.now x None) c.from-at.ensures) (ap (λ x. get_or c.args.old.now x 0) c.from-at.ensures) (sym c.is_told.ensures ∙ c.if-not-is_told.true) n its come h g

pub returns : goal.returns
returns c n its come h g = all_are_told c.args.ranks c.args.told.now c.args.old.now c.loop-rank.rank c.requires.told c.loop-rank-test.false c.loop-rank.auto.rank-end c.loop-rank.invariant n its come h g
