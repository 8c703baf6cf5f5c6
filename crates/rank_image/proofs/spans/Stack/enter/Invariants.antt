use Rattle.std.proofs.Common.{◌≡◌, ◌++◌, ◌+◌, ◌≤◌, drop, map}
use Rattle.c_memory.specs.Memory.{total}
use Rattle.rank_machine.specs.WellFormed.{spans}
use Rattle.rank_image.specs.Along.{spans_seen}
use Rattle.rank_image.proofs.spans.Stack.enter.Given as goal

abbrev pub invariant-loop-t : goal.invariant-loop-t
invariant-loop-t l = record {
  few : l.self.used ≤ 8193;
  used : l.self.used + total (map (λ t. t.cells) (drop l.t-index l.variables)) ≡ l.fn.self.used + 1 + total (map (λ t. t.cells) l.variables);
  spans : spans_seen l.self.spans.items ++ spans l.self.used (map (λ t. t.cells) (drop l.t-index l.variables)) ≡ spans_seen l.fn.self.spans.items ++ spans (l.fn.self.used + 1) (map (λ t. t.cells) l.variables);
}
