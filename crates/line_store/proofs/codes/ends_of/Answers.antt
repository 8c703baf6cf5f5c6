use Rattle.std.proofs.Common.{arith}
use Rattle.line_store.specs.Texts.{ends_form}
use Rattle.line_store.proofs.Lawful.{only-text, ends-form}
use Rattle.line_store.proofs.codes.ends_of.Goals as goal

pub returns-clause-ok : goal.returns-clause-ok
returns-clause-ok c = only-text (ends_form c.args.ranks) (ends-form c.args.ranks c.ranges.ranks.fits) c.args.bytes.now (λ i. omega (arith, c.type_inv.bytes i)) c.in_ok-ends.ends.items c.in_ok-ends.ensures.ok
