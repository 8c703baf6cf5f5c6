use Rattle.std.proofs.Common.{refl, arith}
use Rattle.rank_image.specs.Breach.{IsObject}
use Rattle.rank_image.proofs.Walks.{one_more}
use Rattle.rank_image.proofs.objects.are_objects.Goals as goal

pub loop-o-preserved : goal.loop-o-preserved
loop-o-preserved c = one_more (IsObject c.args.next) c.args.objects.now c.loop-o.o-index c.o-item.result c.loop-o.invariant c.o-item.is (omega arith) (rw c.if-not-is_object.false at c.is_object.ensures.0 refl)
