use Rattle.c_values.proofs.Numbers.{remainder_is, no_remainder}
use Rattle.c_values.proofs.number.remainder.Goals as goal

pub returns-then-fits : goal.returns-then-fits
returns-then-fits c = remainder_is c.args.kind c.args.a c.args.b c.number.result c.fits.result c.ranges.a c.ranges.b c.if-b-eq0.false c.fits.ensures c.if-fits.true c.number.ensures

pub returns-else-fits : goal.returns-else-fits
returns-else-fits c = no_remainder c.args.kind c.args.a c.args.b c.fits.result c.ranges.a c.ranges.b c.if-b-eq0.false c.fits.ensures c.if-fits.false
