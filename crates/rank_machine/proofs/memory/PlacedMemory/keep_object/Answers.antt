use Rattle.std.proofs.Common.{◌≡◌, ◌≤◌, [], ◌∷◌, ◌++◌, ap, sym, subst, ◌∙◌, refl, length}
use Rattle.std.proofs.lemmas.List.{map-append}
use Rattle.variable_stack.specs.declared.Descriptor.{Descriptor}
use Rattle.rank_machine.specs.Blocks.{blocks_of}
use Rattle.rank_machine.specs.Blocks as seen
use Rattle.rank_machine.specs.Resumed.{CanKeep}
use Rattle.rank_machine.specs.Saving.{block_of}
use Rattle.rank_machine.specs.Tied.{Places}
use Rattle.rank_machine.proofs.Kept.{room_above, tied_kept}
use Rattle.rank_machine.proofs.memory.PlacedMemory.keep_object.Goals as goal

pub keep_object-requires-clause-room : goal.keep_object-requires-clause-room
keep_object-requires-clause-room c =
    let can = subst (λ (p : Places). CanKeep p.memory.next p.blocks p.memory.heap c.args.o.now) (sym c.self.view_is) c.requires.can in
    rw c.as_slice-cells.ensures (room_above c.self.inside.memory _ c.args.o.now can c.self.invariant)

pub invariant_of-self-in-Ok-push : goal.invariant_of-self-in-Ok-push
invariant_of-self-in-Ok-push c =
    let o = c.args.o.now in
    let can = subst (λ (p : Places). CanKeep p.memory.next p.blocks p.memory.heap o) (sym c.self.view_is) c.requires.can in
    let asked = subst (λ (p : Places). 65536 ≤ p.memory.asked) (sym c.self.view_is) c.requires.asked in
    let d : Descriptor = record { serial = o.serial; place = o.place; length = length c.as_slice-cells.result.now } in
    let same : seen.block_of d ≡ block_of o = rw c.as_slice-cells.ensures refl in
    let more : blocks_of c.push.new.self.items ≡ blocks_of c.self.inside.blocks.items ++ block_of o ∷ [] = ap blocks_of c.in-Ok-push.ensures.items ∙ map-append seen.block_of c.self.inside.blocks.items (d ∷ []) ∙ ap (λ b. blocks_of c.self.inside.blocks.items ++ b ∷ []) same in
    rw (c.in-Ok.ensures, more, c.as_slice-cells.ensures) (tied_kept c.self.inside.memory (blocks_of c.self.inside.blocks.items) o can asked c.self.invariant)
