use Rattle.std.proofs.Common.{◌≡◌, List, drop}
use Rattle.c_kernel.specs.declared.program.Stmt.{Stmt}
use Rattle.c_meaning.specs.Step.{branch}
use Rattle.c_meaning.proofs.choice.chosen.Given as goal

abbrev pub invariant-loop-arm : goal.invariant-loop-arm
invariant-loop-arm l = record {
  at : l.at ≡ l.arm-index;
  same : (otherwise : List Stmt) → branch (drop l.arm-index l.arms) otherwise l.variables l.memory ≡ branch l.arms otherwise l.variables l.memory;
}
