use Rattle.std.proofs.Common.{◌≡◌, ◌+◌, ◌≤◌, arith, ap, ◌∙◌, refl, length, sym, subst, List, None}
use Rattle.c_memory.specs.Memory.{Object, cells_in, find_object}
use Rattle.c_memory.specs.Order.{IsRising}
use Rattle.c_memory.specs.Resumed.{insert_object, own_serial}
use Rattle.c_memory.specs.Seen.{object_of, serial_of, objects_of}
use Rattle.c_memory.specs.declared.object.Object as kept
use Rattle.c_memory.proofs.Comebacks.{cells_inserted, rising_inserted, rising_seen, rising_unseen}
use Rattle.c_memory.proofs.Finds.{rising_wide}
use Rattle.c_memory.proofs.memory.Memory.keep_object.Goals as goal

pub place_among-at-requires : goal.place_among-at-requires
place_among-at-requires c = rw c.deref.ensures.value (rising_wide serial_of _ _ c.self.invariant.heap c.self.invariant.next)

pub invariant_of-self-2 : goal.invariant_of-self-2
invariant_of-self-2 c =
    let k = c.self.invariant in
    let before = c.args.self.now in
    let os = c.self.inside.heap.items in
    let o : kept.Object = record { serial = c.args.serial; cells = c.in_ok-cells.cells } in
    let nx : c.self.inside.next ≡ before.next = ap (λ m. m.next) c.self.view_is in
    let hs : objects_of os ≡ before.heap = ap (λ m. m.heap) c.self.view_is in
    let ask : c.self.inside.asked ≡ before.asked = ap (λ m. m.asked) c.self.view_is in
    let l : length c.in_ok-cells.cells.items ≡ length c.args.cells.now = ap length c.in_ok-cells.ensures.items in
    let n : c.len-n.result ≡ length c.args.cells.now = c.len-n.ensures ∙ c.in_ok-cells.ensures.len in
    let s : c.self.inside.live ≡ cells_in (objects_of os) = k.live in
    let all : cells_in (objects_of os) ≡ cells_in before.heap = ap cells_in hs in
    let r : c.self.inside.live + c.len-n.result ≤ 65536 = omega (arith, s, all, n, c.requires.room) in
    let new : find_object (objects_of os) c.args.serial ≡ None = ap (λ (x : List Object). find_object x c.args.serial) hs ∙ c.requires.new in
    let e : objects_of c.insert.new.self.items ≡ insert_object (object_of o) (objects_of os) = ap objects_of c.in_ok-insert.ensures.items ∙ rw c.deref.ensures.value at (c.place_among-at.ensures.order o refl) in
    let i : cells_in (insert_object (object_of o) (objects_of os)) ≡ length c.in_ok-cells.cells.items + cells_in (objects_of os) = cells_inserted (object_of o) (objects_of os) in
    let up : IsRising own_serial 1 (insert_object (object_of o) (objects_of os)) c.self.inside.next = rising_inserted 1 c.self.inside.next (object_of o) (objects_of os) (omega (arith, c.requires.some)) (omega (arith, nx, c.requires.next)) new (rising_seen 1 c.self.inside.next os k.heap) in
    record {
      variables = k.variables;
      heap = rising_unseen 1 c.self.inside.next c.insert.new.self.items (subst (λ (x : List Object). IsRising own_serial 1 x c.self.inside.next) (sym e) up);
      next = k.next;
      taken = k.taken;
      stack = k.stack;
      live = let q = ap cells_in e in omega (arith, q, i, l, n, s);
      most = r;
      asked = omega (arith, r, ask, c.requires.asked);
    }
