use Rattle.std.proofs.Common.{◌↔◌, ◌≡◌, drop, length, map}
use Rattle.rank_machine.specs.WellFormed.{span_of}
use Rattle.rank_image.specs.Along.{spans_seen}
use Rattle.rank_image.proofs.variables.have_spans.Given as goal

abbrev pub invariant-loop-at : goal.invariant-loop-at
invariant-loop-at l = record {
  lengths : length l.variables ≡ length l.spans;
  same : (map span_of (drop l.at l.variables) ≡ spans_seen (drop l.at l.spans)) ↔ (map span_of l.variables ≡ spans_seen l.spans);
}
