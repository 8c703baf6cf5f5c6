use Rattle.std.proofs.Common.{List, ap, ◌∙◌}
use Rattle.flat_code.specs.Placed.{Block, first_fit}
use Rattle.rank_machine.specs.Tied.{Places}
use Rattle.rank_machine.proofs.Memories.{tied_refused}
use Rattle.rank_machine.proofs.memory.PlacedMemory.refuse.Goals as goal

pub invariant_of-self-in-Ok : goal.invariant_of-self-in-Ok
invariant_of-self-in-Ok c =
    let same = ap (λ (v : Places). v.blocks) c.self.view_is in
    tied_refused _ _ _ c.args.n _ c.self.invariant (ap (λ (x : List Block). first_fit x 0 c.args.n) same ∙ c.requires.full) c.in-Ok.ensures
