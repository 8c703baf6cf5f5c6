-- A session ends at the first moment when all ranks have ended and none is killed.
use Rattle.std.specs.Prelude.{ℕ, Bool, not, ◌&&◌, List, [], ◌∷◌, if◌then◌else◌}
use Rattle.core_laws.specs.Process.{Rank, Ranks}
use Rattle.core_laws.specs.Handling.{all_below}
use Rattle.core_laws.specs.Core.{Core}
use Rattle.core_laws.specs.CoreEvents.{Session_event, session_next_of}

abbrev pub finished : {S : Type 0} → (Rank S → Bool) → ℕ → Core S → Bool
finished ended n c = all_below n (λ r. not (c.killed r) && ended (c.one r).rank)

abbrev pub session_to_end : {S : Type 0} → Ranks S → (Rank S → Bool) → ℕ → Core S → List Session_event → Core S
session_to_end P ended n c [] = c
session_to_end P ended n c (e ∷ es) = if finished ended n c then c else session_to_end P ended n (session_next_of P n c e) es
