use Rattle.std.proofs.Common.{refl, arith}
use Rattle.rank_machine.specs.WellFormed.{serial_of}
use Rattle.rank_image.proofs.Walks.{rising_end}
use Rattle.rank_image.proofs.variables.ascend.Goals as goal

pub returns : goal.returns
returns c = ((λ t. c.loop-v.invariant.same.0 (rising_end serial_of c.args.variables.now c.loop-v.v-index c.loop-v.last (omega arith) c.loop-v.invariant.small)), (λ w. refl))
