-- When layers, channels, controls and rank 0's wave in code stand for those of the definition.
use Rattle.std.specs.Prelude.{◌≡◌, ℕ, ◌+◌, ◌<◌, ◌^◌, Bool, List, [], ◌∷◌, ◌++◌, Option, Some, None, if◌then◌else◌}
use Rattle.late_logs.specs.declared.entry.Entry.{Entry}
use Rattle.late_logs.specs.declared.log.Log.{Log}
use Rattle.mpi_words.specs.declared.control.Control.{Control}
use Rattle.mpi_words.specs.declared.label.Label.{Label}
use Rattle.core_laws.specs.Rows.{set_at}
use Rattle.mpi_words.specs.declared.message.Message.{Message}
use Rattle.core_laws.specs.Protocol.{Packet, Wave, Protocol, class_of, layer_arrive, move_arrive}
use Rattle.core_laws.specs.Handling.{stops_on, then_stop, then_ready}
use Rattle.core_laws.specs.Written.{log_more}
use Rattle.core_laws.specs.CoreTies.{Placed, IsNetwork}
use Rattle.core_laws.specs.CoreTies as ties
use Rattle.epoch_protocol.specs.Layers.{Kept, IsLayer, log_of}
use Rattle.wave_commit.specs.Waves.{Noted, IsWave}
use Rattle.job_network.specs.declared.network.Network.{Network}
use Rattle.job_network.specs.declared.network.Arrived.{Arrived}

-- rank 0's wave in code: the committed line, and what rank 0 has noted
pub record Led : Type 0 where
  pub line : ℕ
  pub noted : Noted

pub record IsLed (n : ℕ) (k : Led) (w : Wave) (restored : ℕ → Bool) : Type 0 where
  pub line : k.line ≡ w.line
  pub noted : IsWave n k.noted w restored

abbrev pub IsPlaced : ℕ → Kept → Placed → Type 0
IsPlaced n k l = IsLayer n l.rank k l.layer l.log

abbrev pub network_of : Network → ties.Network Kept Led
network_of k = record { layers = k.layers.items; channels = k.channels; controls = k.controls; wave = record { line = k.line; noted = k.wave } }

-- n ranks' network that stands for this protocol, with these logs
pub record IsNet (n : ℕ) (k : Network) (p : Protocol) (logs : ℕ → List Entry) : Type 0 where
  pub ranks : k.ranks ≡ n
  pub stands : IsNetwork (IsPlaced n) (IsLed n) n (network_of k) p logs

-- It stands for some protocol of which this is said.
abbrev pub Stands : Network → (ℕ → Protocol → Type 0) → Type 0
Stands k Q = (n : ℕ) × (p : Protocol) × (logs : ℕ → List Entry) × IsNet n k p logs × Q n p

-- one more message to a rank, and one more from one, can be counted
abbrev pub RoomToSend : ℕ → ℕ → ℕ → Protocol → Type 0
RoomToSend from to n p = (from < n) × (to < n) × ((p.layer from).sent to + 1 < 2 ^ 32)

pub record RoomToArrive (from to n : ℕ) (p : Protocol) : Type 0 where
  pub sender : from < n
  pub receiver : to < n
  pub got : (p.layer to).got from + 1 < 2 ^ 32
  pub old : (p.layer to).old from + 1 < 2 ^ 32
  pub early : (p.layer to).early from + 1 < 2 ^ 32

-- a rank's control to every rank
abbrev pub told_each : Protocol → ℕ → (ℕ → Control) → Protocol
told_each p r says = record p { control = set_at p.control r (λ x. p.control r x ++ says x ∷ []) }

-- the log that a rank writes where it stops at a message with this label
abbrev pub log_at : ℕ → ℕ → ℕ → Protocol → (ℕ → List Entry) → Label → Option Log
log_at n r ops p logs x = if stops_on (p.layer r) x then Some (log_of n r (p.layer r).epoch ops (logs r)) else None

-- a rank's layer has counted a message that has left its channel, and its log has it
abbrev pub counted : Protocol → ℕ → ℕ → ℕ → Protocol
counted p s r epoch = record p { layer = set_at p.layer r (layer_arrive (p.layer r) s (class_of (p.layer r).epoch epoch)) }

abbrev pub logs_with : Protocol → (ℕ → List Entry) → ℕ → ℕ → Label → Message → ℕ → List Entry
logs_with p logs s r x m = set_at logs r (log_more (class_of (p.layer r).epoch x.epoch) (logs r) s m)

-- an arrival: the packet, what is left on its channel, and the network then
pub record HasArrived (n s r ops : ℕ) (p : Protocol) (logs : ℕ → List Entry) (k : Network) (a : Arrived) : Type 0 where
  pub packet : Packet
  pub rest : List Packet
  pub channel : p.channel s r ≡ packet ∷ rest
  pub message : a.message ≡ packet.0
  pub log : a.log ≡ log_at n r ops p logs packet.1
  pub net : IsNet n k (then_ready n (move_arrive (then_stop p r packet) s r packet.1.epoch rest) r) (logs_with p logs s r packet.1 packet.0)

abbrev pub Arrives : ℕ → ℕ → ℕ → ℕ → Protocol → (ℕ → List Entry) → Network → Option Arrived → Type 0
Arrives n s r ops p logs k None = (p.channel s r ≡ []) × IsNet n k p logs
Arrives n s r ops p logs k (Some a) = HasArrived n s r ops p logs k a
