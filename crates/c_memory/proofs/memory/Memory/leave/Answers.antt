use Rattle.std.proofs.Common.{◌≡◌, ◌+◌, ◌-◌, ◌≤◌, arith, sym, ap, ◌∙◌, refl, length, take, drop}
use Rattle.c_memory.specs.Memory.{cells_in, leave}
use Rattle.c_memory.specs.Seen.{serial_of, objects_of, object_of}
use Rattle.std.proofs.lemmas.List.{length-map}
use Rattle.c_memory.proofs.Finds.{cells_split, drop_slice, objects_take, rising_take}
use Rattle.c_memory.proofs.memory.Memory.leave.Goals as goal

pub total_cells-gone-requires : goal.total_cells-gone-requires
total_cells-gone-requires c =
    let k = c.self.invariant in
    let os = c.self.inside.variables.items in
    let n = c.saturating_sub-kept.result in
    let s : cells_in (objects_of (take n os)) + cells_in (objects_of (drop n os)) ≡ cells_in (objects_of os) = cells_split os n in
    let a : c.self.inside.taken ≡ cells_in (objects_of os) = k.taken in
    let b : c.self.inside.calls + c.self.inside.taken ≤ 8192 = k.stack in
    rw (c.deref.ensures.value, drop_slice os n) (omega (arith, s, a, b))

gone : (c : goal.After-self-2-1) → c.total_cells-gone.result ≡ cells_in (objects_of (drop c.saturating_sub-kept.result c.self.inside.variables.items))
gone c = c.total_cells-gone.ensures ∙ rw (c.deref.ensures.value, drop_slice c.self.inside.variables.items c.saturating_sub-kept.result) refl

pub overflow_sub-self : goal.overflow_sub-self
overflow_sub-self c =
    let os = c.self.inside.variables.items in
    let n = c.saturating_sub-kept.result in
    let s : cells_in (objects_of (take n os)) + cells_in (objects_of (drop n os)) ≡ cells_in (objects_of os) = cells_split os n in
    let a : c.self.inside.taken ≡ cells_in (objects_of os) = c.self.invariant.taken in
    let g : c.total_cells-gone.result ≡ cells_in (objects_of (drop n os)) = c.total_cells-gone.ensures ∙ rw (c.deref.ensures.value, drop_slice os n) refl in
    omega (arith, s, a, g)

pub invariant_of-self : goal.invariant_of-self
invariant_of-self c =
    let k = c.self.invariant in
    let os = c.self.inside.variables.items in
    let n = c.saturating_sub-kept.result in
    let s : cells_in (objects_of (take n os)) + cells_in (objects_of (drop n os)) ≡ cells_in (objects_of os) = cells_split os n in
    let a : c.self.inside.taken ≡ cells_in (objects_of os) = k.taken in
    let b : c.self.inside.calls + c.self.inside.taken ≤ 8192 = k.stack in
    let g : c.total_cells-gone.result ≡ cells_in (objects_of (drop n os)) = gone c in
    record {
      variables = rw c.truncate.ensures.items (rising_take serial_of 1 os _ n k.variables);
      heap = k.heap;
      next = k.next;
      taken = rw c.truncate.ensures.items (omega (arith, s, a, g));
      stack = omega (arith, b);
      live = k.live;
      most = k.most;
      asked = k.asked;
    }

pub returns : goal.returns
returns c =
    let os = c.self.inside.variables.items in
    let e : c.saturating_sub-kept.result ≡ length (objects_of os) - c.args.count = c.saturating_sub-kept.ensures ∙ ap (λ n. n - c.args.count) (c.len.ensures ∙ sym c.deref.ensures.len ∙ ap length c.deref.ensures.value ∙ sym (length-map os object_of)) in
    rw (c.truncate.ensures.items, objects_take c.saturating_sub-kept.result os, e, c.saturating_sub-self-inside.ensures) (ap (λ m. leave m c.args.count) c.self.view_is)
