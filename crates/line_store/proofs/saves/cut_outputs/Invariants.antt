use Rattle.std.proofs.Common.{◌≡◌, ◌≢◌, ◌<◌, ◌≤◌, ℕ, List, length, take, get_or}
use Rattle.disk_model.specs.Disk.{IsStable}
use Rattle.line_store.specs.Reading.{output_file, ranks_of}
use Rattle.line_store.specs.Held.{Standing, IsHeld, IsCutOf}
use Rattle.line_store.specs.Store.{IsSettled}
use Rattle.line_store.proofs.Cutting.{CutSoFar}
use Rattle.line_store.proofs.saves.cut_outputs.Given as goal

abbrev pub invariant-loop-rank : goal.invariant-loop-rank
invariant-loop-rank g l = record {
  run : g.D.Disk.told → (text : List ℕ) (s : Standing) → IsHeld text (g.D.Disk.view l.initial.disk) s → length l.lengths ≡ ranks_of text → IsCutOf (ranks_of text) s l.lengths → CutSoFar text s (g.D.Disk.view l.initial.disk) (g.D.Disk.view l.disk);
  done : g.D.Disk.told → (r : ℕ) → r < l.rank → (g.D.Disk.view l.disk).seen (output_file r) ≡ take (get_or l.lengths r 0) ((g.D.Disk.view l.initial.disk).seen (output_file r));
  later : g.D.Disk.told → (r : ℕ) → l.rank ≤ r → (g.D.Disk.view l.disk).seen (output_file r) ≡ (g.D.Disk.view l.initial.disk).seen (output_file r);
  stable : g.D.Disk.told → (r : ℕ) → r < l.rank → IsStable (g.D.Disk.view l.disk) (output_file r);
  others : g.D.Disk.told → (file : ℕ) → ((r : ℕ) → r < length l.lengths → file ≢ output_file r) → (g.D.Disk.view l.disk).seen file ≡ (g.D.Disk.view l.initial.disk).seen file;
  settled : g.D.Disk.told → IsSettled (g.D.Disk.view l.initial.disk) → IsSettled (g.D.Disk.view l.disk);
  no_fault : g.D.Disk.faults l.disk ≡ g.D.Disk.faults l.initial.disk;
}
