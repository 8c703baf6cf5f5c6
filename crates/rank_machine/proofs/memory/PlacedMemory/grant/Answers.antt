use Rattle.std.proofs.Common.{List, ap, ◌∙◌}
use Rattle.flat_code.specs.Placed.{Block, first_fit}
use Rattle.rank_machine.specs.Tied.{Places}
use Rattle.rank_machine.proofs.Memories.{has_room, tied_granted}
use Rattle.rank_machine.proofs.memory.PlacedMemory.grant.Goals as goal

pub allocate-requires-clause-room : goal.allocate-requires-clause-room
allocate-requires-clause-room c =
    let same = ap (λ (v : Places). v.blocks) c.self.view_is in
    λ e. has_room _ _ c.args.n c.args.place c.self.invariant c.requires.some (ap (λ (x : List Block). first_fit x 0 c.args.n) same ∙ c.requires.fits)

pub invariant_of-self-in-Ok-insert : goal.invariant_of-self-in-Ok-insert
invariant_of-self-in-Ok-insert c =
    let same = ap (λ (v : Places). v.blocks) c.self.view_is in
    rw (c.in-Ok-insert.ensures, c.next-serial.ensures) (tied_granted _ _ _ c.args.n c.args.place _ c.self.invariant c.requires.some (ap (λ (x : List Block). first_fit x 0 c.args.n) same ∙ c.requires.fits) c.in-Ok.ensures)
