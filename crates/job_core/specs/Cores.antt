-- When a core in code stands for one of the definition, and what an event comes to.
use Rattle.std.specs.Prelude.{◌≡◌, ℕ, suc, ◌+◌, ◌*◌, ◌^◌, Bool, not, nat_lt, ◌&&◌, ◌<◌, ◌≤◌, List, Option, map, slice_index_or, slice_set}
use Rattle.mpi_words.specs.declared.operation.End.{End}
use Rattle.mpi_words.specs.declared.operation.Reply.{Reply}
use Rattle.mpi_words.specs.declared.message.Message.{Message}
use Rattle.late_logs.specs.declared.entry.Entry.{Entry}
use Rattle.image_text.specs.declared.state.RankState.{RankState}
use Rattle.core_laws.specs.Process.{Ranks, Want}
use Rattle.core_laws.specs.Pausing.{Stepped, Asks}
use Rattle.core_laws.specs.PausingKept.{IsKeptPausing}
use Rattle.core_laws.specs.Quiet.{Deliver, Handle, Begin_wave}
use Rattle.core_laws.specs.Quiet as quiet
use Rattle.core_laws.specs.Core as definition
use Rattle.core_laws.specs.Protocol.{Protocol}
use Rattle.core_laws.specs.Replay.{Replaying}
use Rattle.core_laws.specs.Core.{accepts, is_back, landed, then_restored}
use Rattle.core_laws.specs.CoreEvents.{Core_event, Single, Kill}
use Rattle.core_laws.specs.CoreEvents as events
use Rattle.core_laws.specs.CoreTies.{Held, Holds, Does}
use Rattle.core_laws.specs.Ties.{AreBy}
use Rattle.epoch_protocol.specs.Layers.{Kept}
use Rattle.job_core.specs.declared.job.Core.{Core}
use Rattle.job_core.specs.declared.event.Event.{Event}
use Rattle.job_core.specs.declared.event.Event.TheVariants as given
use Rattle.job_core.specs.declared.effect.Effect.{Effect}
use Rattle.job_core.specs.Effects.{IsEffect}
use Rattle.job_network.specs.declared.member.Member.{Member}
use Rattle.job_network.specs.Members.{IsMember, running_of, stepping_of}
use Rattle.job_network.specs.Sound.{Sound}
use Rattle.job_network.specs.Networks.{Led, IsLed, IsPlaced, IsNet, network_of}

abbrev pub held_of : {S : Type 0} → Core S → Held S Kept Led
held_of k = record { ranks = map running_of k.members.items; killed = k.killed.items; network = network_of k.network }

-- n ranks' core that stands for c, where each rank had made so many operations at its save
pub record IsCore {S : Type 0} (ended : S → Option End) (bytes among : S → ℕ) (n : ℕ) (first : ℕ → ℕ) (k : Core S) (c : definition.Core S) : Type 0 where
  pub ranks : k.network.ranks ≡ n
  pub members : AreBy (IsMember ended bytes among n) n k.members.items c.one
  pub holds : Holds (IsPlaced n) (IsLed n) n first (held_of k) c

-- which event of the definition is meant. A restart is none
abbrev pub EventIs : Event → Core_event → Type 0
EventIs (given.Turn rank) e = e ≡ Single (quiet.Turn rank)
EventIs (given.Deliver from to) e = e ≡ Single (Deliver from to)
EventIs (given.Control from to) e = e ≡ Single (Handle from to)
EventIs given.Sweep e = e ≡ events.Sweep
EventIs given.Wave e = e ≡ Single Begin_wave
EventIs (given.Kill rank) e = e ≡ Kill rank
EventIs given.Restart e = ⊥

-- what an event comes to: the core after it and what was written
pub record Comes {S : Type 0} (ended : S → Option End) (bytes among : S → ℕ) (saved : S → RankState) (P : Ranks S) (n : ℕ) (first : ℕ → ℕ) (c : definition.Core S) (e : Core_event) (k : Core S) (effects : List Effect) : Type 0 where
  pub ranks : k.network.ranks ≡ n
  pub does : Does (IsPlaced n) (IsLed n) (IsEffect saved n (λ r. suc (c.protocol.layer r).epoch)) P n first c e (held_of k) effects
  pub members : AreBy (IsMember ended bytes among n) n k.members.items (events.next_of P n c e).one

-- A member's operations and serial after so many events from a line on. An event makes one operation at most, and at most 2^25 + 2^17 serials.
pub record IsWithin {S : Type 0} (serial : S → ℕ) (line events : ℕ) (m : Member S) : Type 0 where
  pub ops : m.ops ≤ 200000 * line + events
  pub serials : serial m.machine ≤ 2 ^ 43 * line + suc events * (2 ^ 25 + 2 ^ 17)

-- It stands for some core of n ranks, at least one, that is kept, so many events after its beginning or restart.
abbrev pub StandsSo : {S : Type 0} → (S → Option End) → (bytes among serial : S → ℕ) → (turned : ℕ → S → Stepped S) → (S → Reply → S) → ((limit : ℕ) (s : S) (w : Want) → (turned limit s).stop ≡ Asks w → turned limit (turned limit s).machine ≡ turned limit s) → ℕ → Core S → Type 0
StandsSo {S} ended bytes among serial turned answered again events k =
    (n : ℕ) × (first : ℕ → ℕ) × (c : definition.Core S) × IsCore ended bytes among n first k c × (0 < n) × Sound n events c.protocol × (begin : ℕ → S) × IsKeptPausing (stepping_of begin turned answered again) n c × ((r : ℕ) (m : Member S) → r < n → IsWithin serial k.network.line events (slice_index_or k.members.items r m))

-- n members have made as many operations, and their machines stay
abbrev pub Stay : {S : Type 0} → ℕ → (old new : List (Member S)) → Type 0
Stay {S} n old new = (r : ℕ) (m : Member S) → r < n → ((slice_index_or new r m).ops ≡ (slice_index_or old r m).ops) × ((slice_index_or new r m).machine ≡ (slice_index_or old r m).machine)

-- whether a rank takes part and a message of rank s
abbrev pub awaits : {S : Type 0} → ℕ → definition.Core S → ℕ → ℕ → Bool
awaits n c s r = nat_lt r n && (not (c.killed r) && accepts (c.one r).log (c.one r).left s)

-- rank r has met a message of rank s, and has told rank 0 where it restores no more, from what the network was otherwise
pub record HasMet {S : Type 0} (ended : S → Option End) (bytes among : S → ℕ) (n s r : ℕ) (m : Message) (one : ℕ → Replaying S) (p : Protocol) (logs : ℕ → List Entry) (old new : Core S) : Type 0 where
  pub member : Member S
  pub members : new.members.items ≡ slice_set old.members.items r member
  pub killed : new.killed ≡ old.killed
  pub is : IsMember ended bytes among n member (landed (one r) (one r).log s m)
  pub ops : member.ops ≡ (slice_index_or old.members.items r member).ops
  pub net : IsNet n new.network (then_restored (is_back (one r)) (is_back (landed (one r) (one r).log s m)) p r) logs
