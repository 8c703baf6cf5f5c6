use Rattle.core_laws.proofs.PausingReplay.{moves_on_pausing}
use Rattle.core_laws.proofs.never_sticks_with_pauses.Goals as goal

pub returns : goal.returns
returns c d = moves_on_pausing
