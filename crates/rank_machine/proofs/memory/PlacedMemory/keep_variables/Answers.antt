use Rattle.std.proofs.Common.{◌++◌, ap, sym, subst, ◌∙◌, List, map}
use Rattle.c_memory.specs.Memory.{Memory, Object}
use Rattle.c_memory.specs.Order.{IsRising}
use Rattle.c_memory.specs.Resumed.{own_serial}
use Rattle.rank_machine.specs.Saving.{object_of}
use Rattle.rank_machine.proofs.Readiness.{next_is, rising_one, rising_up_to}
use Rattle.rank_machine.proofs.memory.PlacedMemory.keep_variables.Goals as goal

pub keep_variable-requires-clause-above : goal.keep_variable-requires-clause-above
keep_variable-requires-clause-above c =
    let vs = c.args.variables.now in
    let kept = c.loop-v.self.memory.variables in
    let e = ap (λ x. kept ++ map object_of x) (next_is vs c.loop-v.v-index c.v-item.result c.loop-v-test.true c.v-item.is) in
    let h = subst (λ (x : List Object). IsRising own_serial 1 x c.args.self.now.memory.next) (sym c.loop-v.invariant.variables ∙ e) c.requires in
    rising_up_to 1 c.args.self.now.memory.next kept (object_of c.v-item.result) _ h

pub keep_variable-requires-clause-next : goal.keep_variable-requires-clause-next
keep_variable-requires-clause-next c =
    let vs = c.args.variables.now in
    let kept = c.loop-v.self.memory.variables in
    let e = ap (λ x. kept ++ map object_of x) (next_is vs c.loop-v.v-index c.v-item.result c.loop-v-test.true c.v-item.is) in
    let h = subst (λ (x : List Object). IsRising own_serial 1 x c.args.self.now.memory.next) (sym c.loop-v.invariant.variables ∙ e) c.requires in
    let n = ap (λ (m : Memory). m.next) c.loop-v.invariant.memory in
    rw n (rising_one 1 c.args.self.now.memory.next kept (object_of c.v-item.result) _ h)
