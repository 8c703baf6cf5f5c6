use Rattle.std.proofs.Common.{◌≡◌, ◌≤◌}
use Rattle.disk_model.specs.Runs.{Keeps}
use Rattle.line_store.specs.Reading.{leading}
use Rattle.line_store.proofs.line.read_line.Given as goal

abbrev pub invariant-loop-line : goal.invariant-loop-line
invariant-loop-line g l = record {
  keeps : g.D.Disk.told → Keeps (g.D.Disk.view l.initial.disk) (g.D.Disk.view l.disk);
  line : g.D.Disk.told → l.line ≤ leading ((g.D.Disk.view l.initial.disk).seen 2);
  no_fault : g.D.Disk.faults l.disk ≡ g.D.Disk.faults l.initial.disk;
}
