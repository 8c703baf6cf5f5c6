use Rattle.std.proofs.Common.{◌≡◌, ◌+◌, ◌≤◌, arith, ap, ◌∙◌, refl, length}
use Rattle.std.proofs.lemmas.List.{length-replicate}
use Rattle.c_memory.specs.Memory.{cells_in, null, used}
use Rattle.c_memory.specs.Seen.{serial_of, objects_of}
use Rattle.c_memory.proofs.Finds.{rising_more, rising_to, cells_append}
use Rattle.c_memory.proofs.memory.Memory.add.Goals as goal

pub invariant_of-self-2 : goal.invariant_of-self-2
invariant_of-self-2 c =
    let k = c.self.invariant in
    let nx : c.self.inside.next ≡ c.args.self.now.next = ap (λ m. m.next) c.self.view_is in
    let l : length c.in_ok-cells.cells.items ≡ c.args.n = ap length (c.in_ok-cells.ensures.items_if_clones_equal (λ y e. e)) ∙ length-replicate c.args.n null in
    let s : c.self.inside.taken ≡ cells_in (objects_of c.self.inside.variables.items) = k.taken in
    let us : c.self.inside.calls + cells_in (objects_of c.self.inside.variables.items) ≡ used c.args.self.now = ap used c.self.view_is in
    let r : c.self.inside.calls + c.self.inside.taken + c.args.n ≤ 8192 = omega (arith, us, s, c.requires.room) in
    record {
      heap = rising_to serial_of 1 _ _ _ (omega arith) k.heap;
      variables = rw c.in_ok-push.ensures.items (rising_more serial_of 1 _ _ _ refl k.variables);
      next = omega (arith, c.requires.next, nx);
      taken = rw (c.in_ok-push.ensures.items, cells_append c.self.inside.variables.items (record { serial = c.self.inside.next; cells = c.in_ok-cells.cells }), l, s) refl;
      stack = omega (arith, r);
      live = k.live;
      most = k.most;
      asked = k.asked;
    }
