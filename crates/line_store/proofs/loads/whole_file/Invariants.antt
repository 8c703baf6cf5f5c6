use Rattle.std.proofs.Common.{◌≡◌, ◌≤◌, length}
use Rattle.disk_model.specs.Runs.{Keeps}
use Rattle.line_store.proofs.Pieces.{IsFront}
use Rattle.line_store.proofs.loads.whole_file.Given as goal

abbrev pub invariant-loop-at : goal.invariant-loop-at
invariant-loop-at g l = record {
  keeps : g.D.Disk.told → Keeps (g.D.Disk.view l.initial.disk) (g.D.Disk.view l.disk);
  bytes : g.D.Disk.told → IsFront l.bytes.items ((g.D.Disk.view l.initial.disk).seen l.file);
  many : l._at ≤ length l.bytes.items;
  no_fault : g.D.Disk.faults l.disk ≡ g.D.Disk.faults l.initial.disk;
}
