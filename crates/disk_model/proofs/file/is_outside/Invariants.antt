use Rattle.std.proofs.Common.{◌≡◌, drop}
use Rattle.disk_model.specs.Files.{is_outside}
use Rattle.disk_model.proofs.file.is_outside.Given as goal

abbrev pub invariant-loop-range : goal.invariant-loop-range
invariant-loop-range l = is_outside l.place l.ranges ≡ is_outside l.place (drop l.range-index l.ranges)
