use Rattle.std.proofs.Common.{◌≡◌, ◌<◌, ℕ}
use Rattle.line_store.specs.Reading.{output_file}
use Rattle.line_store.specs.Store.{IsShut, StaysShut, IsEmpty}
use Rattle.line_store.proofs.gate.empty_outputs.Given as goal

abbrev pub invariant-loop-rank : goal.invariant-loop-rank
invariant-loop-rank g l = record {
  stays : g.D.Disk.told → IsShut (g.D.Disk.view l.initial.disk) → StaysShut (g.D.Disk.view l.initial.disk) (g.D.Disk.view l.disk);
  empty : g.D.Disk.told → (r : ℕ) → r < l.rank → IsEmpty (g.D.Disk.view l.disk) (output_file r);
  others : g.D.Disk.told → (file : ℕ) → file < 5 → IsEmpty (g.D.Disk.view l.initial.disk) file → IsEmpty (g.D.Disk.view l.disk) file;
  no_fault : g.D.Disk.faults l.disk ≡ g.D.Disk.faults l.initial.disk;
}
