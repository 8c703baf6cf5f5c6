-- The quiet job: ranks and channels, and nothing of the protocol.
use Rattle.std.specs.Prelude.{◌≡◌, ℕ, ◌&&◌, List, [], ◌∷◌, ◌++◌, nat_lt, if◌then◌else◌}
use Rattle.mpi_words.specs.declared.message.Message.{Message}
use Rattle.core_laws.specs.Rows.{set_at, set_pair}
use Rattle.core_laws.specs.Process.{Did, Local, Marked, Nothing, Process, Rank, Ranks, Sent, Turned, arrive, ranks}

-- one turn of a rank, one delivery or one control from one rank to another, or the beginning of a wave
pub data Event : Type 0 where
  Turn : ℕ → Event
  Deliver : ℕ → ℕ → Event
  Handle : ℕ → ℕ → Event
  Begin_wave : Event

-- It has neither epochs nor logs, controls or files.
pub record Quiet (S : Type 0) : Type 0 where
  pub rank : ℕ → Rank S
  pub channel : ℕ → ℕ → List Message

abbrev pub sends : (ℕ → ℕ → List Message) → ℕ → Did → ℕ → ℕ → List Message
sends q r (Sent to m) = set_pair q r to (q r to ++ m ∷ [])
sends q r Nothing = q
sends q r Local = q
sends q r Marked = q

abbrev pub quiet_turn : {S : Type 0} → Quiet S → ℕ → Turned S → Quiet S
quiet_turn q r t = record { rank = set_at q.rank r t.rank; channel = sends q.channel r t.did }

abbrev pub quiet_arrives : {S : Type 0} → Quiet S → ℕ → ℕ → List Message → Quiet S
quiet_arrives q s r [] = q
quiet_arrives q s r (m ∷ rest) = record { rank = set_at q.rank r (arrive (q.rank r) s m); channel = set_pair q.channel s r rest }

abbrev pub quiet_next_of : {S : Type 0} → Ranks S → ℕ → Quiet S → Event → Quiet S
quiet_next_of P n q (Turn r) = if nat_lt r n then quiet_turn q r (P.turn_of (q.rank r)) else q
quiet_next_of P n q (Deliver s r) = if nat_lt s n && nat_lt r n then quiet_arrives q s r (q.channel s r) else q
quiet_next_of P n q (Handle s r) = q
quiet_next_of P n q Begin_wave = q

abbrev pub quiet_start_of : {S : Type 0} → Ranks S → Quiet S
quiet_start_of P = record { rank = λ r. record { machine = P.begin r; mail = []; output = [] }; channel = λ s r. [] }

abbrev pub quiet_run_of : {S : Type 0} → Ranks S → ℕ → Quiet S → List Event → Quiet S
quiet_run_of P n q [] = q
quiet_run_of P n q (e ∷ es) = quiet_run_of P n (quiet_next_of P n q e) es

-- some list of turns and deliveries leads from the beginning to this state
abbrev pub IsReached_of : {S : Type 0} → Ranks S → ℕ → Quiet S → Type 0
IsReached_of P n q = (es : List Event) × (quiet_run_of P n (quiet_start_of P) es ≡ q)

abbrev pub quiet_next : {S : Type 0} → Process S → ℕ → Quiet S → Event → Quiet S
quiet_next P = quiet_next_of (ranks P)

abbrev pub quiet_start : {S : Type 0} → Process S → Quiet S
quiet_start P = quiet_start_of (ranks P)

abbrev pub quiet_run : {S : Type 0} → Process S → ℕ → Quiet S → List Event → Quiet S
quiet_run P = quiet_run_of (ranks P)

abbrev pub IsReached : {S : Type 0} → Process S → ℕ → Quiet S → Type 0
IsReached P = IsReached_of (ranks P)
