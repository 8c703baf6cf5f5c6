use Rattle.std.proofs.Common.{◌≡◌, ◌+◌, drop}
use Rattle.std.specs.Prelude.{not}
use Rattle.std.specs.List.{prefix_len}
use Rattle.c3_top.specs.Input.{is_feed}
use Rattle.c3_top.proofs.input.line_of.Given as goal

abbrev pub invariant-loop-at : goal.invariant-loop-at
invariant-loop-at l = prefix_len (λ b. not (is_feed b)) l.text ≡ l.at + prefix_len (λ b. not (is_feed b)) (drop l.at l.text)
