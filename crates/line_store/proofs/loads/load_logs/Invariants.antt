use Rattle.std.proofs.Common.{◌≡◌}
use Rattle.disk_model.specs.Runs.{Keeps}
use Rattle.late_logs.specs.Texts.{log_form}
use Rattle.line_store.specs.Loads.{AllFit, AreTexts}
use Rattle.line_store.specs.Reading.{log_file}
use Rattle.line_store.proofs.loads.load_logs.Given as goal

abbrev pub invariant-loop-rank : goal.invariant-loop-rank
invariant-loop-rank g l = record {
  keeps : g.D.Disk.told → Keeps (g.D.Disk.view l.initial.disk) (g.D.Disk.view l.disk);
  fit : AllFit log_form l.rank l.logs.items;
  texts : g.D.Disk.told → AreTexts log_form l.rank (λ r. (g.D.Disk.view l.initial.disk).seen (log_file r l.line)) l.logs.items;
  no_fault : g.D.Disk.faults l.disk ≡ g.D.Disk.faults l.initial.disk;
}
