use Rattle.std.proofs.Common.{◌≡◌, ◌+◌, ◌≤◌, arith, ap, ◌∙◌, refl, length, sym, subst, List}
use Rattle.c_memory.specs.Memory.{Object, cells_in, used}
use Rattle.c_memory.specs.Order.{IsRising}
use Rattle.c_memory.specs.Resumed.{own_serial}
use Rattle.c_memory.specs.Seen.{serial_of, objects_of}
use Rattle.c_memory.proofs.Comebacks.{rising_unseen}
use Rattle.c_memory.proofs.Finds.{rising_more, rising_to, cells_append}
use Rattle.c_memory.proofs.memory.Memory.keep_variable.Goals as goal

pub invariant_of-self-2 : goal.invariant_of-self-2
invariant_of-self-2 c =
    let k = c.self.invariant in
    let before = c.args.self.now in
    let nx : c.self.inside.next ≡ before.next = ap (λ m. m.next) c.self.view_is in
    let l : length c.in_ok-cells.cells.items ≡ length c.args.cells.now = ap length c.in_ok-cells.ensures.items in
    let n : c.len-n.result ≡ length c.args.cells.now = c.len-n.ensures ∙ c.in_ok-cells.ensures.len in
    let s : c.self.inside.taken ≡ cells_in (objects_of c.self.inside.variables.items) = k.taken in
    let us : c.self.inside.calls + cells_in (objects_of c.self.inside.variables.items) ≡ used before = ap used c.self.view_is in
    let r : c.self.inside.calls + (c.self.inside.taken + c.len-n.result) ≤ 8192 = omega (arith, us, s, n, c.requires.room) in
    let vs : objects_of c.self.inside.variables.items ≡ before.variables = ap (λ m. m.variables) c.self.view_is in
    let above : IsRising own_serial 1 (objects_of c.self.inside.variables.items) c.args.serial = subst (λ (x : List Object). IsRising own_serial 1 x c.args.serial) (sym vs) c.requires.above in
    let up : c.args.serial + 1 ≤ c.self.inside.next = omega (arith, nx, c.requires.next) in
    record {
      variables = rw c.in_ok-push.ensures.items (rising_to serial_of 1 _ _ _ up (rising_more serial_of 1 _ _ _ refl (rising_unseen 1 c.args.serial _ above)));
      heap = k.heap;
      next = k.next;
      taken = rw (c.in_ok-push.ensures.items, cells_append c.self.inside.variables.items (record { serial = c.args.serial; cells = c.in_ok-cells.cells }), n, l, s) refl;
      stack = r;
      live = k.live;
      most = k.most;
      asked = k.asked;
    }
