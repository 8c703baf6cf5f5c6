use Rattle.std.proofs.Common.{◌≡◌, drop}
use Rattle.c3_top.specs.Input.{is_end, skip_while}
use Rattle.c3_top.proofs.input.trimmed.Given as goal

abbrev pub invariant-loop-at : goal.invariant-loop-at
invariant-loop-at l = skip_while is_end l.text ≡ skip_while is_end (drop l.at l.text)
