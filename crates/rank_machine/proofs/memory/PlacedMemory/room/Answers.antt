use Rattle.std.proofs.Common.{List, ap, sym, ◌∙◌, arith}
use Rattle.flat_code.specs.Placed.{Block, first_fit}
use Rattle.rank_machine.specs.Tied.{Places}
use Rattle.rank_machine.proofs.Apart.{some_few, too_many}
use Rattle.rank_machine.proofs.memory.PlacedMemory.room.Goals as goal

pub returns-then-n-gt65536-clause-place : goal.returns-then-n-gt65536-clause-place
returns-then-n-gt65536-clause-place c =
    let same = ap (λ (v : Places). v.blocks) c.self.view_is in
    sym (ap (λ (x : List Block). first_fit x 0 c.args.n) (sym same) ∙ too_many 65536 0 c.args.n _ (omega arith) (omega arith) c.self.invariant.within)

pub returns-clause-few : goal.returns-clause-few
returns-clause-few c = some_few c.args.n _ c.fit.result c.self.invariant.within (rw c.deref-blocks.ensures.value at c.fit.ensures)
