use Rattle.std.proofs.Common.{refl, arith}
use Rattle.rank_machine.specs.WellFormed.{IsBelow}
use Rattle.rank_image.proofs.Walks.{one_more}
use Rattle.rank_image.proofs.variables.are_below.Goals as goal

pub loop-o-preserved : goal.loop-o-preserved
loop-o-preserved c = one_more (IsBelow c.args.next) c.args.objects.now c.loop-o.o-index c.o-item.result c.loop-o.invariant c.o-item.is (omega arith) (rw c.if-not-is_below.false at c.is_below.ensures.0 refl)
