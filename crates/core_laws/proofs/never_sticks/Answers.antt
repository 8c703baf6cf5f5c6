use Rattle.core_laws.proofs.ReplayGoesOn.{moves_on}
use Rattle.core_laws.proofs.never_sticks.Goals as goal

pub returns : goal.returns
returns c d = moves_on
