-- The events of the core: single ones, sweeps and kills; its beginning, its restart from a committed line, and sessions.
use Rattle.std.specs.Prelude.{ℕ, zero, suc, true, false, List, [], ◌∷◌, ◌++◌, length, ◌==◌, nat_lt, if◌then◌else◌}
use Rattle.core_laws.specs.Rows.{set_at}
use Rattle.core_laws.specs.Protocol.{Protocol, restarted}
use Rattle.core_laws.specs.Process.{Process, Ranks, ranks}
use Rattle.core_laws.specs.Quiet.{Event, Deliver, Handle}
use Rattle.core_laws.specs.Written.{Written}
use Rattle.core_laws.specs.Replay.{Replaying, absorb}
use Rattle.core_laws.specs.Core.{Core, restores, step_of, steps_of}

-- Each pair's event as often as it is counted, by sender and then by receiver, both ascending.
abbrev pub below : ℕ → List ℕ
below zero = []
below (suc n) = below n ++ n ∷ []

abbrev pub times : ℕ → Event → List Event
times zero e = []
times (suc k) e = e ∷ times k e

abbrev pub row_events : (ℕ → Event) → (ℕ → ℕ) → List ℕ → List Event
row_events e count [] = []
row_events e count (r ∷ rs) = times (count r) (e r) ++ row_events e count rs

abbrev pub pair_events : ℕ → (ℕ → ℕ → Event) → (ℕ → ℕ → ℕ) → List ℕ → List Event
pair_events n e count [] = []
pair_events n e count (s ∷ ss) = row_events (e s) (count s) (below n) ++ pair_events n e count ss

-- A sweep handles what each control channel holds at its start, and then delivers what each channel holds.
abbrev pub sweep_events : ℕ → Protocol → List Event
sweep_events n p = pair_events n Handle (λ s r. length (p.control s r)) (below n) ++ pair_events n Deliver (λ s r. length (p.channel s r)) (below n)

pub data Core_event : Type 0 where
  Single : Event → Core_event
  Sweep : Core_event
  Kill : ℕ → Core_event

abbrev pub next_of : {S : Type 0} → Ranks S → ℕ → Core S → Core_event → Core S
next_of P n c (Single e) = step_of P n c e
next_of P n c Sweep = steps_of P n c (sweep_events n c.protocol)
next_of P n c (Kill r) = if nat_lt r n then record c { killed = set_at c.killed r true } else c

-- The beginning: no rank has anything to restore.
abbrev pub nothing_written : {S : Type 0} → Ranks S → ℕ → Written S
nothing_written P r = record { image = record { machine = P.begin r; mail = []; output = [] }; early = λ x. 0; log = []; ops = 0 }

abbrev pub start_of : {S : Type 0} → Ranks S → Core S
start_of P = record {
  one = λ r. record { rank = record { machine = P.begin r; mail = []; output = [] }; log = []; left = 0 };
  killed = λ r. false;
  saved = nothing_written P;
  written = nothing_written P;
  protocol = record (restarted 0 (λ r x. 0) (λ r. true)) { restored = λ r. true };
}

-- The restart from the images and logs of a line.
abbrev pub one_from : {S : Type 0} → Written S → Replaying S
one_from w = absorb w.ops w.image w.log

abbrev pub restart_from : {S : Type 0} → ℕ → (ℕ → Written S) → Core S
restart_from L w = record {
  one = λ r. one_from (w r);
  killed = λ r. false;
  saved = w;
  written = w;
  protocol = restarted L (λ r. (w r).early) (λ r. restores (one_from (w r)).log (one_from (w r)).left);
}

abbrev pub restart_of : {S : Type 0} → Ranks S → Core S → Core S
restart_of P c = if c.protocol.wave.line == 0 then start_of P else restart_from c.protocol.wave.line c.saved

-- A session's events.
pub data Session_event : Type 0 where
  Core_does : Core_event → Session_event
  Restart : Session_event

abbrev pub session_next_of : {S : Type 0} → Ranks S → ℕ → Core S → Session_event → Core S
session_next_of P n c (Core_does e) = next_of P n c e
session_next_of P n c Restart = restart_of P c

abbrev pub session_of : {S : Type 0} → Ranks S → ℕ → Core S → List Session_event → Core S
session_of P n c [] = c
session_of P n c (e ∷ es) = session_of P n (session_next_of P n c e) es

-- The same of a process.
abbrev pub next : {S : Type 0} → Process S → ℕ → Core S → Core_event → Core S
next P = next_of (ranks P)

abbrev pub start : {S : Type 0} → Process S → Core S
start P = start_of (ranks P)

abbrev pub restart : {S : Type 0} → Process S → Core S → Core S
restart P = restart_of (ranks P)

abbrev pub session : {S : Type 0} → Process S → ℕ → Core S → List Session_event → Core S
session P = session_of (ranks P)
