use Rattle.std.proofs.Common.{◌≡◌, Some, None, map, sym, ap, ◌∙◌}
use Rattle.c_memory.specs.Memory.{number, find_object, put_all}
use Rattle.c_memory.specs.Seen.{serial_of, objects_of}
use Rattle.c_memory.proofs.Finds.{rising_wide}
use Rattle.c_memory.proofs.Writes.{all_some, all_none}
use Rattle.c_memory.proofs.memory.MemoryObjects.put_numbers.Goals as goal

pub find-requires : goal.find-requires
find-requires c = rw c.deref.ensures.value (rising_wide serial_of _ _ c.self.invariant.variables c.self.invariant.next)

pub put_numbers-requires : goal.put_numbers-requires
put_numbers-requires c = rising_wide serial_of _ _ c.self.invariant.variables c.self.invariant.next

pub put_numbers-requires-in-None : goal.put_numbers-requires-in-None
put_numbers-requires-in-None c = rising_wide serial_of _ _ c.self.invariant.heap c.self.invariant.next

pub returns-in-Some-clause-put : goal.returns-in-Some-clause-put
returns-in-Some-clause-put c =
    let e : find_object (objects_of c.self.inside.variables.items) c.args.spot.serial ≡ Some c.in-Some.field-0.now = rw (← c.deref.ensures.value) (sym c.in-Some.ensures) in
    rw c.put_numbers.ensures.put (all_some (map number c.args.numbers.now) _ c.args.spot _ e ∙ ap (λ m. put_all m c.args.spot (map number c.args.numbers.now)) c.self.view_is)

pub returns-in-None-clause-put : goal.returns-in-None-clause-put
returns-in-None-clause-put c =
    let e : find_object (objects_of c.self.inside.variables.items) c.args.spot.serial ≡ None = rw (← c.deref.ensures.value) (sym c.in-None.ensures) in
    rw c.put_numbers-in-None.ensures.put (all_none (map number c.args.numbers.now) _ c.args.spot e ∙ ap (λ m. put_all m c.args.spot (map number c.args.numbers.now)) c.self.view_is)
