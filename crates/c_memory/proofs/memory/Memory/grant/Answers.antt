use Rattle.std.proofs.Common.{◌≡◌, ◌+◌, ◌≤◌, arith, ap, ◌∙◌, refl, length}
use Rattle.std.proofs.lemmas.List.{length-replicate}
use Rattle.c_memory.specs.Memory.{cells_in, null}
use Rattle.c_memory.specs.Seen.{serial_of, objects_of}
use Rattle.c_memory.proofs.Finds.{rising_more, rising_to, cells_append}
use Rattle.c_memory.proofs.Refusals.{full_not, live_within}
use Rattle.c_memory.proofs.memory.Memory.grant.Goals as goal

pub invariant_of-self-2 : goal.invariant_of-self-2
invariant_of-self-2 c =
    let k = c.self.invariant in
    let before = c.args.self.now in
    let nx : c.self.inside.next ≡ before.next = ap (λ m. m.next) c.self.view_is in
    let l : length c.in_ok-cells.cells.items ≡ c.args.n = ap length (c.in_ok-cells.ensures.items_if_clones_equal (λ y e. e)) ∙ length-replicate c.args.n null in
    let s : c.self.inside.live ≡ cells_in (objects_of c.self.inside.heap.items) = k.live in
    let h : cells_in (objects_of c.self.inside.heap.items) ≡ cells_in before.heap = ap (λ m. cells_in m.heap) c.self.view_is in
    let f : cells_in before.heap + c.args.n ≤ 65536 = full_not (cells_in before.heap) c.args.n c.requires.room in
    let r : c.self.inside.live + c.args.n ≤ 65536 = omega (arith, f, h, s) in
    let a : c.self.inside.live ≤ c.self.inside.asked = k.asked in
    record {
      variables = rising_to serial_of 1 _ _ _ (omega arith) k.variables;
      heap = rw c.in_ok-push.ensures.items (rising_more serial_of 1 _ _ _ refl k.heap);
      next = omega (arith, c.requires.next, nx);
      taken = k.taken;
      stack = k.stack;
      live = rw (c.in_ok-push.ensures.items, cells_append c.self.inside.heap.items (record { serial = c.self.inside.next; cells = c.in_ok-cells.cells }), l, s) refl;
      most = r;
      asked = rw (c.asked_with-self-inside.ensures, c.from.ensures) (live_within (c.self.inside.live + c.args.n) c.self.inside.asked c.args.n r (omega (arith, a)));
    }
