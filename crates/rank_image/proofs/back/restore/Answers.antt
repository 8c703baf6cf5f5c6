use Rattle.rank_image.proofs.Breaches.{told}
use Rattle.rank_image.proofs.back.restore.Goals as goal

pub returns-in-Some-clause-fault : goal.returns-in-Some-clause-fault
returns-in-Some-clause-fault c = told c.deref.result.now c.args.code.now.value c.args.state.now c.in_ok-field.field-0 c.in-Some.field c.deref.ensures c.in-Some.is c.in_ok-field.ensures
