use Rattle.std.proofs.Common.{rules, ◌≡◌, sym, ap, ◌∙◌, Some, None, map}
use Rattle.c_memory.specs.Order.{place_of}
use Rattle.c_memory.specs.Seen.{serial_of, objects_of}
use Rattle.c_memory.specs.Memory.{cells_in, number}
use Rattle.c_memory.specs.Written.{with_cells}
use Rattle.c_memory.proofs.Finds.{stands, misses, rising_set}
use Rattle.c_memory.proofs.Writes.{puts_some, puts_none, cells_puts}
use Rattle.std.proofs.lemmas.Int.{to_z-of_z}
use mir.Syntax.{w128}
use Rattle.c_memory.proofs.object.put_numbers.Goals as goal

pub returns-in-Some-clause-put : goal.returns-in-Some-clause-put
returns-in-Some-clause-put c =
    let os = c.args.objects.now.items in
    let e : place_of serial_of os c.args.spot.serial ≡ Some c.in-Some.i = rw (← c.deref.ensures.value) (sym c.in-Some.ensures.place) in
    puts_some os c.in-Some.i c.args.spot (map number c.args.numbers.now) c.index_mut.result.now _ (stands serial_of os c.args.spot.serial c.in-Some.i e) (ap serial_of c.index_mut.ensures.value) (rw (← c.index_mut.ensures.value) (c.put_from.ensures ∙ ap (λ p. with_cells c.index_mut.result.now.cells.items p (map number c.args.numbers.now)) (to_z-of_z w128 c.args.spot.place (search rules))))

pub returns-in-Some-clause-rising : goal.returns-in-Some-clause-rising
returns-in-Some-clause-rising c =
    let os = c.args.objects.now.items in
    λ low high h. rising_set serial_of low os high c.in-Some.i c.index_mut.result.now _ (ap serial_of c.index_mut.ensures.value) h

pub returns-in_default-clause-put : goal.returns-in_default-clause-put
returns-in_default-clause-put c =
    let os = c.args.objects.now.items in
    let e : place_of serial_of os c.args.spot.serial ≡ None = rw (← c.deref.ensures.value) (sym c.in_default.ensures.place) in
    puts_none os c.args.spot (map number c.args.numbers.now) (misses serial_of os c.args.spot.serial e)

pub returns-in-Some-clause-cells : goal.returns-in-Some-clause-cells
returns-in-Some-clause-cells c = ap cells_in (returns-in-Some-clause-put c) ∙ cells_puts (objects_of c.args.objects.now.items) c.args.spot (map number c.args.numbers.now)
