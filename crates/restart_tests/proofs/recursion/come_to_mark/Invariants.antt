use Rattle.std.proofs.Common.{◌≡◌, ◌*◌, ◌-◌, is_some, true}
use Rattle.flat_code.specs.Restart.{IsAtMark, Reenters, Restarting}
use Rattle.rank_machine.specs.Returning.{restarting_of}
use Rattle.restart_tests.proofs.recursion.come_to_mark.Given as goal

abbrev pub invariant-loop-k : goal.invariant-loop-k
invariant-loop-k g l = record {
  functions : l.machine.functions ≡ l.fn.machine.functions;
  left : is_some l.machine.left ≡ true;
  leads : (t : Restarting) × Reenters l.fn.machine.functions (l.k-end - l.k-counter) (restarting_of l.machine) t × Reenters l.fn.machine.functions (2 * l.calls - 1) (restarting_of l.fn.machine) t × IsAtMark l.fn.machine.functions t.machine;
}
