use Rattle.std.proofs.Common.{◌≡◌, ◌++◌, map, drop}
use Rattle.ccift_lower.specs.Lowered.{instr_of}
use Rattle.ccift_lower.proofs.instr.put_actions.Given as goal

abbrev pub invariant-loop-action : goal.invariant-loop-action
invariant-loop-action l = l.code ++ map instr_of (drop l.action-index l.actions) ≡ l.fn.code ++ map instr_of l.actions
