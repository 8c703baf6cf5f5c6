use Rattle.std.proofs.Common.{arith}
use Rattle.image_text.specs.Texts.{image_form}
use Rattle.image_text.proofs.Lawful.{image-form}
use Rattle.image_text.proofs.Reading.{only-from}
use Rattle.image_text.proofs.whole.read_image.Goals as goal

pub returns-clause-only : goal.returns-clause-only
returns-clause-only c = only-from image_form image-form c.args.bytes.now (λ i. omega (arith, c.type_inv.bytes i)) c.read_whole.result c.read_whole.ensures
