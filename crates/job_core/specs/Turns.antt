-- What a turn of a rank comes to in code.
use Rattle.std.specs.Prelude.{◌≡◌, ℕ, suc, ◌+◌, ◌<◌, ◌≤◌, ◌^◌, Bool, true, not, ◌&&◌, nat_lt, List, [], ◌∷◌, Option, if◌then◌else◌, slice_index_or, slice_set}
use Rattle.late_logs.specs.declared.entry.Entry.{Entry}
use Rattle.mpi_words.specs.declared.operation.End.{End}
use Rattle.image_text.specs.declared.state.RankState.{RankState}
use Rattle.core_laws.specs.Process.{Did, Nothing, Sent, Local, Marked, Rank, Turned, is_operation}
use Rattle.core_laws.specs.Protocol.{Protocol}
use Rattle.core_laws.specs.Handling.{protocol_after}
use Rattle.core_laws.specs.Replay.{may_turn}
use Rattle.core_laws.specs.Core as definition
use Rattle.core_laws.specs.Core.{is_back, one_turned, then_restored}
use Rattle.core_laws.specs.CoreTies.{EachIs, logs_of}
use Rattle.core_laws.specs.Effects.{turn_effects}
use Rattle.job_network.specs.declared.network.Network.{Network}
use Rattle.job_network.specs.declared.member.Member.{Member}
use Rattle.job_network.specs.Members.{IsMember}
use Rattle.job_network.specs.Networks.{IsNet, RoomToSend}
use Rattle.job_core.specs.declared.job.Core.{Core}
use Rattle.job_core.specs.declared.effect.Effect.{Effect}
use Rattle.job_core.specs.declared.effect.Effect.TheVariants.{Output}
use Rattle.job_core.specs.Effects.{IsEffect}

-- whether a rank takes part and has a turn
abbrev pub has_turn : {S : Type 0} → ℕ → definition.Core S → ℕ → Bool
has_turn n c r = nat_lt r n && (not (c.killed r) && may_turn (c.one r).log (c.one r).left)

-- what a rank's print writes
abbrev pub output_of : ℕ → List ℕ → List Effect
output_of rank [] = []
output_of rank (byte ∷ bytes) = Output rank (byte ∷ bytes) ∷ []

-- it stands for some protocol and logs of which this is said
abbrev pub StandsWith : Network → (ℕ → Protocol → (ℕ → List Entry) → Type 0) → Type 0
StandsWith k Q = (n : ℕ) × (p : Protocol) × (logs : ℕ → List Entry) × IsNet n k p logs × Q n p logs

-- there is a line for a rank's save, and it logs nothing yet
pub record MaySave (r : ℕ) (p : Protocol) (logs : ℕ → List Entry) : Type 0 where
  pub line : (p.layer r).epoch + 1 < 2 ^ 16
  pub empty : logs r ≡ []

-- whatever a rank does can be counted
pub record RoomToTurn (r n : ℕ) (p : Protocol) (logs : ℕ → List Entry) : Type 0 where
  pub inside : r < n
  pub sends : (to : ℕ) → to < n → RoomToSend r to n p
  pub saves : (p.layer r).asked ≡ true → MaySave r p logs

-- a send goes to one of n ranks
abbrev pub SendsBelow : ℕ → Did → Type 0
SendsBelow n Nothing = Unit {0}
SendsBelow n (Sent to message) = to < n
SendsBelow n Local = Unit {0}
SendsBelow n Marked = Unit {0}

-- the effects of a rank that has put out so many bytes before and stands so after so many operations, by the line of each rank's next save and its operations at its last
abbrev pub AreWritten : {S : Type 0} → (S → RankState) → ℕ → ℕ → Protocol → (before : List ℕ) → Rank S → Did → ℕ → List Effect → Type 0
AreWritten saved n r p before k did ops effects =
    (line first : ℕ → ℕ) → line r ≡ suc (p.layer r).epoch → (did ≡ Marked → (p.layer r).asked ≡ true → first r ≡ ops) → EachIs (IsEffect saved n line first) effects (turn_effects (p.layer r) r before k did)

-- the network after what a rank did, and the effects
pub record HasFollowed {S : Type 0} (saved : S → RankState) (n r : ℕ) (p : Protocol) (logs : ℕ → List Entry) (before : List ℕ) (k : Rank S) (did : Did) (ops : ℕ) (network : Network) (effects : List Effect) : Type 0 where
  pub net : IsNet n network (protocol_after n p r did) logs
  pub written : AreWritten saved n r p before k did ops effects

-- the core after rank r's turn t, and the effects
pub record HasTurned {S : Type 0} (ended : S → Option End) (bytes among serial : S → ℕ) (saved : S → RankState) (n r : ℕ) (c : definition.Core S) (t : Turned S) (old new : Core S) (effects : List Effect) : Type 0 where
  pub member : Member S
  pub members : new.members.items ≡ slice_set old.members.items r member
  pub killed : new.killed ≡ old.killed
  pub is : IsMember ended bytes among n member (one_turned (c.one r) t)
  pub goes : SendsBelow n t.did
  pub ops : member.ops ≡ (if is_operation t.did then suc (slice_index_or old.members.items r member).ops else (slice_index_or old.members.items r member).ops)
  pub serials : serial member.machine ≤ serial (slice_index_or old.members.items r member).machine + 2 ^ 25 + 2 ^ 17
  pub net : IsNet n new.network (then_restored (is_back (c.one r)) (is_back (one_turned (c.one r) t)) (protocol_after n c.protocol r t.did) r) (logs_of c)
  pub written : AreWritten saved n r c.protocol (c.one r).rank.output t.rank t.did member.ops effects
