use Rattle.std.proofs.Common.{◌≡◌, ◌+◌, drop}
use Rattle.disk_model.specs.Stored.{place_of}
use Rattle.disk_model.proofs.store.find.Given as goal

abbrev pub invariant-loop-i : goal.invariant-loop-i
invariant-loop-i l = place_of l.file l.files ≡ l.i + place_of l.file (drop l.i l.files)
