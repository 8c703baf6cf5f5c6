use Rattle.std.proofs.Common.{◌≤◌, ap, sym, subst}
use Rattle.std.proofs.lemmas.Result.{IfOk-weaker}
use Rattle.c_memory.specs.Seen.{serial_of}
use Rattle.c_memory.proofs.Refusals.{granted_serial}
use Rattle.c_memory.proofs.Finds.{rising_low}
use Rattle.c_memory.proofs.memory.Memory.malloc.Goals as goal

pub returns-clause-refused : goal.returns-clause-refused
returns-clause-refused c =
    let l : 1 ≤ c.args.self.now.next = subst (λ n. 1 ≤ n) (ap (λ m. m.next) c.self.view_is) (rising_low serial_of 1 c.self.inside.variables.items _ c.self.invariant.variables) in
    IfOk-weaker c.grant.result _ _ (λ given p. granted_serial c.args.self.now c.args.n given l (sym c.if-is_full.ensures) p) c.grant.ensures.pointer
