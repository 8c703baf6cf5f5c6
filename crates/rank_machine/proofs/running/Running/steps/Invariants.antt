use Rattle.std.proofs.Common.{◌≡◌, ◌-◌}
use Rattle.mpi_words.specs.declared.operation.Op.{Op}
use Rattle.mpi_words.specs.declared.operation.End.{End}
use Rattle.runs.specs.Turn.{Act}
use Rattle.rank_machine.specs.Placing.{Placing, Turns}
use Rattle.rank_machine.specs.Running.{placing_of}
use Rattle.rank_machine.specs.Turning.{most_steps, turned_in}
use Rattle.rank_machine.proofs.running.Running.steps.Given as goal

abbrev pub invariant-loop : goal.invariant-loop
invariant-loop l = record {
  turn : (a : Act Placing Op End) → Turns l.functions l.left (placing_of l.self) a → Turns l.functions l.limit (placing_of l.fn.self) a;
  function : turned_in l.functions most_steps l.limit (placing_of l.fn.self) ≡ turned_in l.functions (most_steps - l.counter) l.left (placing_of l.self);
}
