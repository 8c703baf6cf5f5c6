use Rattle.std.proofs.Common.{◌≡◌, sym, ap, ◌∙◌, Some, None}
use Rattle.c_memory.specs.Order.{place_of}
use Rattle.c_memory.specs.Seen.{serial_of, objects_of}
use Rattle.c_memory.specs.Memory.{cells_in}
use Rattle.c_memory.proofs.Finds.{stands, misses, zero_some, zero_none, rising_set, cells_zero}
use Rattle.c_memory.proofs.object.zero.Goals as goal

pub returns-in-Some-clause-zero : goal.returns-in-Some-clause-zero
returns-in-Some-clause-zero c =
    let os = c.args.objects.now.items in
    let e : place_of serial_of os c.args.serial ≡ Some c.in-Some.i = rw (← c.deref.ensures.value) (sym c.in-Some.ensures.place) in
    zero_some os c.args.serial c.in-Some.i c.index_mut.result.now _ (stands serial_of os c.args.serial c.in-Some.i e) (ap serial_of c.index_mut.ensures.value) (rw (← c.index_mut.ensures.value) c.clear.ensures)

pub returns-in-Some-clause-rising : goal.returns-in-Some-clause-rising
returns-in-Some-clause-rising c =
    let os = c.args.objects.now.items in
    λ low high h. rising_set serial_of low os high c.in-Some.i c.index_mut.result.now _ (ap serial_of c.index_mut.ensures.value) h

pub returns-in_default-clause-zero : goal.returns-in_default-clause-zero
returns-in_default-clause-zero c =
    let os = c.args.objects.now.items in
    let e : place_of serial_of os c.args.serial ≡ None = rw (← c.deref.ensures.value) (sym c.in_default.ensures.place) in
    zero_none os c.args.serial (misses serial_of os c.args.serial e)

pub returns-in-Some-clause-cells : goal.returns-in-Some-clause-cells
returns-in-Some-clause-cells c = ap cells_in (returns-in-Some-clause-zero c) ∙ cells_zero (objects_of c.args.objects.now.items) c.args.serial
