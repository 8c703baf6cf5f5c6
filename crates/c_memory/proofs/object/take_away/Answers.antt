use Rattle.std.proofs.Common.{◌≡◌, sym, ap, ◌∙◌, Some, None, length, get_or}
use Rattle.c_memory.specs.Order.{place_of}
use Rattle.c_memory.specs.Seen.{serial_of, objects_of}
use Rattle.c_memory.proofs.Finds.{StandsAt, stands, misses, without_some, without_none, rising_remove, cells_without}
use Rattle.c_memory.proofs.object.take_away.Goals as goal

at : (c : goal.After-drop-object) → StandsAt serial_of c.args.objects.now.items c.args.serial c.in-Some.i
at c =
    let os = c.args.objects.now.items in
    let e : place_of serial_of os c.args.serial ≡ Some c.in-Some.i = rw (← c.deref.ensures.value) (sym c.in-Some.ensures.place) in
    stands serial_of os c.args.serial c.in-Some.i e

pub returns-in-Some-clause-gone : goal.returns-in-Some-clause-gone
returns-in-Some-clause-gone c = ap objects_of c.remove-object.ensures.items ∙ without_some c.args.objects.now.items c.args.serial c.in-Some.i (at c)

pub returns-in-Some-clause-rising : goal.returns-in-Some-clause-rising
returns-in-Some-clause-rising c = λ low high h. rw c.remove-object.ensures.items (rising_remove serial_of low c.args.objects.now.items high c.in-Some.i h)

pub returns-in-Some-clause-cells : goal.returns-in-Some-clause-cells
returns-in-Some-clause-cells c =
    let os = c.args.objects.now.items in
    let e : length c.deref-cells.result.now ≡ length (get_or os c.in-Some.i c.remove-object.result).cells.items = ap length c.deref-cells.ensures.value ∙ ap (λ o. length o.cells.items) c.remove-object.ensures.value in
    rw (returns-in-Some-clause-gone c, e) (cells_without os c.args.serial c.in-Some.i c.remove-object.result (at c))

pub returns-in-None-clause-gone : goal.returns-in-None-clause-gone
returns-in-None-clause-gone c =
    let os = c.args.objects.now.items in
    let e : place_of serial_of os c.args.serial ≡ None = rw (← c.deref.ensures.value) (sym c.in-None.ensures.place) in
    without_none os c.args.serial (misses serial_of os c.args.serial e)
