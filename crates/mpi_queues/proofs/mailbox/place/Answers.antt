use Rattle.std.proofs.Common.{◌∙◌}
use Rattle.mpi_queues.proofs.Gifts.{handed_last, handed_on, handed_out}
use Rattle.mpi_queues.proofs.mailbox.place.Goals as goal

pub returns-then-give-clause-given : goal.returns-then-give-clause-given
returns-then-give-clause-given c = c.loop-at.invariant ∙ handed_last c.loop-at.waiting.items c.args.arrivals.now c.loop-at.at c.index-arrivals-at.result c.loop-at-test.true c.index-arrivals-at.is (rw c.if-give.true at c.give.ensures)

pub loop-at-preserved : goal.loop-at-preserved
loop-at-preserved c = c.loop-at.invariant ∙ handed_on c.loop-at.waiting.items c.give.new.waiting.items c.args.arrivals.now c.loop-at.at c.index-arrivals-at.result c.loop-at-test.true c.index-arrivals-at.is (rw c.if-give.false at c.give.ensures)

pub returns-clause-given : goal.returns-clause-given
returns-clause-given c = c.loop-at.invariant ∙ handed_out c.loop-at.waiting.items c.args.arrivals.now c.loop-at.at c.loop-at-test.false
