use Rattle.std.proofs.Common.{sym, ap, ◌∙◌, Some}
use Rattle.c_memory.specs.Seen.{serial_of}
use Rattle.c_memory.proofs.Finds.{stands, misses, find_some, find_none}
use Rattle.c_memory.proofs.object.find.Goals as goal

pub returns-in-None : goal.returns-in-None
returns-in-None c = sym (find_none c.args.objects.now c.args.serial (misses serial_of c.args.objects.now c.args.serial (sym c.in-None.ensures.place)))

pub returns-in-Some : goal.returns-in-Some
returns-in-Some c = ap Some c.deref.ensures.value ∙ sym (find_some c.args.objects.now c.args.serial c.in-Some.i c.index-objects-i.result (stands serial_of c.args.objects.now c.args.serial c.in-Some.i (sym c.in-Some.ensures.place)))
