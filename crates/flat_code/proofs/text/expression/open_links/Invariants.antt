use Rattle.std.proofs.Common.{◌≡◌, ◌++◌, drop}
use Rattle.flat_code.specs.Nested.{link_openings}
use Rattle.flat_code.proofs.text.expression.open_links.Given as goal

abbrev pub invariant-loop-k : goal.invariant-loop-k
invariant-loop-k l = l.text.items ≡ l.fn.text.items ++ link_openings (drop l.k l.links)
