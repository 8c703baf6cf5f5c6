use Rattle.std.proofs.Common.{rules, ◌∙◌}
use Rattle.c_values.proofs.Wide.{elements_is}
use Rattle.c_values.proofs.pointer.elements.Goals as goal

pub returns : goal.returns
returns c = c.checked.ensures ∙ elements_is c.args.a c.args.b c.args.cells _ _ _ c.ranges.a c.ranges.b (search rules) c.if-cells-eq0.false c.from.ensures c.from-2.ensures c.from-3.ensures
