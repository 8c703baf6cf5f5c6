use Rattle.std.proofs.Common.{◌≡◌, ◌+◌, ◌<◌, ◌≤◌, ◌^◌, length, take, get_or, ap, ◌∙◌, arith}
use Rattle.c_memory.specs.Memory.{cells_in}
use Rattle.c_memory.specs.Seen.{objects_of}
use Rattle.c_memory.proofs.Finds.{cells_one, cells_part}
use Rattle.c_memory.proofs.object.total_cells.Goals as goal

pub overflow_add-n : goal.overflow_add-n
overflow_add-n c =
    let os = c.args.objects.now in
    let i = c.loop-o.o-index in
    let n : c.loop-o.n ≡ cells_in (objects_of (take i os)) = c.loop-o.invariant in
    let m : cells_in (objects_of (take (i + 1) os)) ≡ cells_in (objects_of (take i os)) + length (get_or os i c.o-item.result).cells.items = cells_one os i c.o-item.result c.loop-o-test.true in
    let p : cells_in (objects_of (take (i + 1) os)) ≤ cells_in (objects_of os) = cells_part os (i + 1) in
    let q : length c.deref-cells.result.now ≡ length (get_or os i c.o-item.result).cells.items = ap length c.deref-cells.ensures.value ∙ ap (λ o. length o.cells.items) c.o-item.is in
    let r : cells_in (objects_of os) < 2 ^ 32 = c.requires in
    omega (arith, n, m, p, q, r)

pub loop-o-preserved : goal.loop-o-preserved
loop-o-preserved c =
    let os = c.args.objects.now in
    let i = c.loop-o.o-index in
    let n : c.loop-o.n ≡ cells_in (objects_of (take i os)) = c.loop-o.invariant in
    let m : cells_in (objects_of (take (i + 1) os)) ≡ cells_in (objects_of (take i os)) + length (get_or os i c.o-item.result).cells.items = cells_one os i c.o-item.result c.loop-o-test.true in
    let q : length c.deref-cells.result.now ≡ length (get_or os i c.o-item.result).cells.items = ap length c.deref-cells.ensures.value ∙ ap (λ o. length o.cells.items) c.o-item.is in
    omega (arith, n, m, q)
