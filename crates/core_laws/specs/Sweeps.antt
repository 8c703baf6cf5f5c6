-- What each sweep brings about in a wave in which every rank has saved.
use Rattle.std.specs.Prelude.{◌≡◌, ℕ, suc, ◌<◌, ◌≤◌, true, false, List, [], ◌∷◌, ◌++◌, ◌==◌, if◌then◌else◌}
use Rattle.core_laws.specs.Rows.{set_pair}
use Rattle.core_laws.specs.Protocol.{Packet, Layer, Wave, Protocol}
use Rattle.core_laws.specs.Invariant.{Invariant}
use Rattle.core_laws.specs.Process.{Ranks}
use Rattle.core_laws.specs.Quiet.{Event, Turn, Deliver, Handle, Begin_wave}
use Rattle.core_laws.specs.Core.{Core, step_of}
use Rattle.core_laws.specs.CoreEvents.{Single, Sweep, Kill, Session_event, Core_does, Restart, session_of, session_next_of}
use Rattle.core_laws.specs.Kept.{Tells}
use Rattle.core_laws.specs.Prompt.{Prompt, behind, kind}

-- one for a message of this epoch
abbrev pub of_epoch : ℕ → Packet → ℕ
of_epoch e x = if x.1.epoch == e then 1 else 0

-- a wave is under way, every rank has saved, and none is killed
pub record AllSaved {S : Type 0} (n : ℕ) (c : Core S) : Type 0 where
  pub way : c.protocol.wave.under_way ≡ true
  pub saved : (r : ℕ) → r < n → (c.protocol.layer r).epoch ≡ suc c.protocol.wave.line
  pub alive : (r : ℕ) → r < n → c.killed r ≡ false

-- The wave for line L + 1 is under way, every rank has saved, and i sweeps were since:
-- after one every rank has been ready, after two Stop was told, after three every rank has stopped.
pub record InWave (n i L : ℕ) (layer : ℕ → Layer) (w : Wave) : Type 0 where
  pub line : w.line ≡ L
  pub way : w.under_way ≡ true
  pub saved : (r : ℕ) → r < n → (layer r).epoch ≡ suc L
  pub ready : 1 ≤ i → (r : ℕ) → r < n → (layer r).was_ready ≡ true
  pub told : 2 ≤ i → w.stop_told ≡ true
  pub stopped : 3 ≤ i → (r : ℕ) → r < n → (layer r).logging ≡ false
  pub most : i ≤ 3

-- Stage i of the wave for line L + 1: it stands there and no rank is killed, or this line is committed.
pub data Stage {S : Type 0} (n i L : ℕ) (c : Core S) : Type 0 where
  Waits : InWave n i L c.protocol.layer c.protocol.wave → ((r : ℕ) → r < n → c.killed r ≡ false) → Stage n i L c
  Past : L < c.protocol.wave.line → Stage n i L c

-- Each event keeps K, and K says enough of the protocol.
pub record Keeps {S : Type 0} (P : Ranks S) (n : ℕ) (K : Core S → Type 0) : Type 0 where
  pub invariant : (c : Core S) → K c → Invariant n c.protocol
  pub tells : (c : Core S) → K c → Tells n c.one c.protocol
  pub step : (c : Core S) (e : Event) → K c → K (step_of P n c e)

-- all that is kept, and the stage
pub record Staged {S : Type 0} (n i L : ℕ) (K : Core S → Type 0) (c : Core S) : Type 0 where
  pub kept : K c
  pub prompt : Prompt n c.protocol
  pub stage : Stage n i L c

-- events without Kill and Restart, and the sweeps among them
abbrev pub Peaceful : Session_event → Type 0
Peaceful (Core_does (Single e)) = Unit {0}
Peaceful (Core_does Sweep) = Unit {0}
Peaceful (Core_does (Kill r)) = ⊥
Peaceful Restart = ⊥

abbrev pub with_sweep : Session_event → ℕ → ℕ
with_sweep (Core_does (Single e)) i = i
with_sweep (Core_does Sweep) i = suc i
with_sweep (Core_does (Kill r)) i = i
with_sweep Restart i = i

abbrev pub sweeps_in : List Session_event → ℕ
sweeps_in [] = 0
sweeps_in (e ∷ es) = with_sweep e (sweeps_in es)

-- How many Handle and Deliver of each pair are in a list.
abbrev pub with_handle : Event → (ℕ → ℕ → ℕ) → ℕ → ℕ → ℕ
with_handle (Handle a b) k = set_pair k a b (suc (k a b))
with_handle (Deliver a b) k = k
with_handle (Turn r) k = k
with_handle Begin_wave k = k

abbrev pub with_deliver : Event → (ℕ → ℕ → ℕ) → ℕ → ℕ → ℕ
with_deliver (Handle a b) d = d
with_deliver (Deliver a b) d = set_pair d a b (suc (d a b))
with_deliver (Turn r) d = d
with_deliver Begin_wave d = d

abbrev pub handles_in : List Event → ℕ → ℕ → ℕ
handles_in [] = λ s r. 0
handles_in (e ∷ es) = with_handle e (handles_in es)

abbrev pub delivers_in : List Event → ℕ → ℕ → ℕ
delivers_in [] = λ s r. 0
delivers_in (e ∷ es) = with_deliver e (delivers_in es)

-- A stage within a sweep: nothing that it waits for stands behind the k controls and d messages of each pair that are to be taken yet.
pub record Track (n i L : ℕ) (k d : ℕ → ℕ → ℕ) (p : Protocol) : Type 0 where
  pub wave : InWave n i L p.layer p.wave
  pub controls : (s r : ℕ) → s < n → r < n → behind (kind i) (k s r) (p.control s r) ≡ 0
  pub packets : (s r : ℕ) → s < n → r < n → behind (of_epoch L) (d s r) (p.channel s r) ≡ 0

pub data Tracked (n i L : ℕ) (k d : ℕ → ℕ → ℕ) (p : Protocol) : Type 0 where
  Goes_on : Track n i L k d p → Tracked n i L k d p
  Over : L < p.wave.line → Tracked n i L k d p

-- an event of the list commits the line after L
pub record CommitsAfter {S : Type 0} (P : Ranks S) (n : ℕ) (L : ℕ) (c : Core S) (es : List Session_event) : Type 0 where
  pub before : List Session_event
  pub event : Session_event
  pub after : List Session_event
  pub split : es ≡ before ++ event ∷ after
  pub waits : (session_of P n c before).protocol.wave.line ≡ L
  pub commits : (session_next_of P n (session_of P n c before) event).protocol.wave.line ≡ suc L
