use Rattle.core_laws.proofs.Regularity.{regular_kept, regular_within, regular_pausing}
use Rattle.core_laws.proofs.regular.Goals as goal

pub returns : goal.returns
returns c d = record { kept = regular_kept; within = regular_within; paused = regular_pausing }
