use Rattle.std.proofs.Common.{◌≡◌, drop, flat_map, length}
use Rattle.std.specs.Prelude.{false, replicate}
use Rattle.flat_code.specs.Text.{targets}
use Rattle.flat_code.specs.Labels.{marked}
use Rattle.flat_code.proofs.text.labels.labels.Given as goal

abbrev pub invariant-loop-i : goal.invariant-loop-i
invariant-loop-i l = marked l.labels.items (flat_map targets (drop l.i-index l.code)) ≡ marked (replicate (length l.code) false) (flat_map targets l.code)
