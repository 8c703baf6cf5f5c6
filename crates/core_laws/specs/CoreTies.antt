-- What ties a core in code to the core here: lists for data per rank and per pair of ranks, and a list of effects for another.
use Rattle.std.specs.Prelude.{◌≡◌, ℕ, ◌+◌, ◌<◌, Bool, true, false, List, [], ◌∷◌, length, slice_index_or}
use Rattle.late_logs.specs.declared.entry.Entry.{Entry}
use Rattle.mpi_words.specs.declared.control.Control.{Control}
use Rattle.mpi_queues.specs.Arrivals.{Arrival}
use Rattle.core_laws.specs.Ties.{AreBy, Are}
use Rattle.core_laws.specs.Protocol.{Packet, Layer, Wave, Protocol}
use Rattle.core_laws.specs.Process.{Ranks}
use Rattle.core_laws.specs.Quiet.{Event}
use Rattle.core_laws.specs.Handling.{after_save}
use Rattle.core_laws.specs.Replay.{Replaying}
use Rattle.core_laws.specs.Core.{Core, steps_of}
use Rattle.core_laws.specs.CoreEvents.{Core_event, next_of}
use Rattle.core_laws.specs.Effects.{Effect, effects_of, steps_effects_of}

-- a row for each sender, with an item for each receiver
abbrev pub Pairs : {A : Type 0} → ℕ → List (List A) → (ℕ → ℕ → A) → Type 0
Pairs n = AreBy (Are n) n

-- One rank in code: its machine and mailbox, the length of its output, its operations in all, and what is left of its log and of its operations.
pub record Running (S : Type 0) : Type 0 where
  pub machine : S
  pub mail : List Arrival
  pub bytes : ℕ
  pub ops : ℕ
  pub log : List Entry
  pub left : ℕ

pub record IsRunning {S : Type 0} (k : Running S) (v : Replaying S) : Type 0 where
  pub machine : k.machine ≡ v.rank.machine
  pub mail : k.mail ≡ v.rank.mail
  pub bytes : k.bytes ≡ length v.rank.output
  pub log : k.log ≡ v.log
  pub left : k.left ≡ v.left

-- One rank's layer, with its log so far. A rank that doesn't log has none in code.
pub record Placed : Type 0 where
  pub rank : ℕ
  pub layer : Layer
  pub log : List Entry

abbrev pub log_while : Bool → List Entry → List Entry
log_while true log = log
log_while false log = []

abbrev pub placed : (ℕ → Layer) → (ℕ → List Entry) → ℕ → Placed
placed layer logs r = record { rank = r; layer = layer r; log = log_while (layer r).logging (logs r) }

-- Layers, channels, controls and rank 0's wave in code. What keeps a layer and a wave, K and W, has its own tie.
pub record Network (K W : Type 0) : Type 0 where
  pub layers : List K
  pub channels : List (List (List Packet))
  pub controls : List (List (List Control))
  pub wave : W

pub record IsNetwork {K W : Type 0} (IsLayer : K → Placed → Type 0) (IsWave : W → Wave → (ℕ → Bool) → Type 0) (n : ℕ) (k : Network K W) (p : Protocol) (logs : ℕ → List Entry) : Type 0 where
  pub layers : AreBy IsLayer n k.layers (placed p.layer logs)
  pub channels : Pairs n k.channels p.channel
  pub controls : Pairs n k.controls p.control
  pub wave : IsWave k.wave p.wave p.restored

pub record Held (S K W : Type 0) : Type 0 where
  pub ranks : List (Running S)
  pub killed : List Bool
  pub network : Network K W

abbrev pub logs_of : {S : Type 0} → Core S → ℕ → List Entry
logs_of c r = (c.written r).log

-- A core in code. `first` has the operations that each rank had made at its save.
pub record Holds {S K W : Type 0} (IsLayer : K → Placed → Type 0) (IsWave : W → Wave → (ℕ → Bool) → Type 0) (n : ℕ) (first : ℕ → ℕ) (h : Held S K W) (c : Core S) : Type 0 where
  pub ranks : AreBy IsRunning n h.ranks c.one
  pub ops : (r : ℕ) (default : Running S) → r < n → (c.protocol.layer r).logging ≡ true → (slice_index_or h.ranks r default).ops ≡ first r + (c.written r).ops
  pub killed : Are n h.killed c.killed
  pub network : IsNetwork IsLayer IsWave n h.network c.protocol (logs_of c)

-- each effect in code is as the one at its place says
abbrev pub EachIs : {A B : Type 0} → (A → B → Type 0) → List A → List B → Type 0
EachIs R [] [] = Unit {0}
EachIs R [] (y ∷ ys) = ⊥
EachIs R (x ∷ xs) [] = ⊥
EachIs R (x ∷ xs) (y ∷ ys) = R x y × EachIs R xs ys

-- What events come to in code: the core after them, and what was written, where `first` is as above.
pub record ComesTo {S K W E : Type 0} (IsLayer : K → Placed → Type 0) (IsWave : W → Wave → (ℕ → Bool) → Type 0) (IsEffect : (ℕ → ℕ) → E → Effect S → Type 0)
    (n : ℕ) (first : ℕ → ℕ) (after : Core S) (says : List (Effect S)) (h : Held S K W) (done : List E) : Type 0 where
  pub core : Holds IsLayer IsWave n first h after
  pub effects : EachIs (IsEffect first) done says

-- Single events in which no rank saves.
abbrev pub DoesAll : {S K W E : Type 0} → (K → Placed → Type 0) → (W → Wave → (ℕ → Bool) → Type 0) → ((ℕ → ℕ) → E → Effect S → Type 0)
    → Ranks S → ℕ → (ℕ → ℕ) → Core S → List Event → Held S K W → List E → Type 0
DoesAll IsLayer IsWave IsEffect P n first c es = ComesTo IsLayer IsWave IsEffect n first (steps_of P n c es) (steps_effects_of P n c es)

-- One event. A rank that logs has had its save.
pub record Does {S K W E : Type 0} (IsLayer : K → Placed → Type 0) (IsWave : W → Wave → (ℕ → Bool) → Type 0) (IsEffect : (ℕ → ℕ) → E → Effect S → Type 0)
    (P : Ranks S) (n : ℕ) (first : ℕ → ℕ) (c : Core S) (e : Core_event) (h : Held S K W) (done : List E) : Type 0 where
  pub now : ℕ → ℕ
  pub same : (r : ℕ) → r < n → (c.protocol.layer r).logging ≡ true → now r ≡ first r
  pub comes : ComesTo IsLayer IsWave IsEffect n now (next_of P n c e) (effects_of P n c e) h done

-- What a core that is kept has, and code rests on: who logs has saved in the wave under way, and who is asked has not, and has an empty log.
pub record Regular {S : Type 0} (n : ℕ) (c : Core S) : Type 0 where
  pub logs : (r : ℕ) → r < n → (c.protocol.layer r).logging ≡ true → (c.protocol.wave.under_way ≡ true) × (after_save c.protocol r ≡ true)
  pub asked : (r : ℕ) → r < n → (c.protocol.layer r).asked ≡ true → (c.protocol.wave.under_way ≡ true) × (after_save c.protocol r ≡ false)
  pub empty : (r : ℕ) → r < n → (c.protocol.layer r).asked ≡ true → ((c.written r).log ≡ []) × ((c.written r).ops ≡ 0)
