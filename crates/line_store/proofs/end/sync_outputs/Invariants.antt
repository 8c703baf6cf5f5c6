use Rattle.std.proofs.Common.{◌≡◌, ◌<◌, ℕ}
use Rattle.disk_model.specs.Disk.{IsStable}
use Rattle.disk_model.specs.Runs.{Keeps}
use Rattle.line_store.specs.Reading.{output_file}
use Rattle.line_store.proofs.end.sync_outputs.Given as goal

abbrev pub invariant-loop-rank : goal.invariant-loop-rank
invariant-loop-rank g l = record {
  keeps : g.D.Disk.told → Keeps (g.D.Disk.view l.initial.disk) (g.D.Disk.view l.disk);
  stable : g.D.Disk.told → (r : ℕ) → r < l.rank → IsStable (g.D.Disk.view l.disk) (output_file r);
  no_fault : g.D.Disk.faults l.disk ≡ g.D.Disk.faults l.initial.disk;
}
