use Rattle.std.proofs.Common.{◌≡◌}
use Rattle.disk_model.specs.Runs.{Keeps}
use Rattle.image_text.specs.Texts.{image_form}
use Rattle.line_store.specs.Loads.{AllFit, AreTexts}
use Rattle.line_store.specs.Reading.{image_file}
use Rattle.line_store.proofs.loads.load_images.Given as goal

abbrev pub invariant-loop-rank : goal.invariant-loop-rank
invariant-loop-rank g l = record {
  keeps : g.D.Disk.told → Keeps (g.D.Disk.view l.initial.disk) (g.D.Disk.view l.disk);
  fit : AllFit image_form l.rank l.images.items;
  texts : g.D.Disk.told → AreTexts image_form l.rank (λ r. (g.D.Disk.view l.initial.disk).seen (image_file r l.line)) l.images.items;
  no_fault : g.D.Disk.faults l.disk ≡ g.D.Disk.faults l.initial.disk;
}
