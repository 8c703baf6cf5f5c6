use Rattle.c_values.proofs.Numbers.{quotient_checked}
use Rattle.c_values.proofs.number.quotient.Goals as goal

pub returns : goal.returns
returns c = quotient_checked c.args.kind c.args.a c.args.b c.checked.result c.ranges.a c.ranges.b c.if-b-eq0.false c.checked.ensures
