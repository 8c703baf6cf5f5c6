use Rattle.std.proofs.Common.{◌≡◌, take}
use Rattle.disk_model.specs.declared.calls.Call.TheVariants.{Stop}
use Rattle.disk_model.proofs.Stopping.{AreStopped}
use Rattle.disk_model.proofs.store.stopped.Given as goal

abbrev pub invariant-loop-file : goal.invariant-loop-file
invariant-loop-file l = record {
  call : l.call ≡ Stop l.fn.choice;
  done : AreStopped l.fn.choice (take l.file-index l.files) l.all.items;
}
