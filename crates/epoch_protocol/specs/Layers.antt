-- One rank's layer as code keeps it, and its answers.
use Rattle.std.specs.Prelude.{◌≡◌, ℕ, ◌+◌, ◌<◌, ◌^◌, Bool, List, [], ◌∷◌, ◌++◌, length, Option, nat_lt, if◌then◌else◌, slice_index}
use Rattle.mpi_words.specs.declared.control.Control.{Control}
use Rattle.mpi_words.specs.declared.control.Control.TheVariants.{Request, Count, Ready, Stop, Stopped, Restored}
use Rattle.mpi_words.specs.declared.label.Label.{Label}
use Rattle.mpi_words.specs.declared.message.Message.{Message}
use Rattle.late_logs.specs.declared.entry.Entry.{Entry}
use Rattle.late_logs.specs.declared.entry.Entry.TheVariants as entry
use Rattle.late_logs.specs.declared.log.Log.{Log}
use Rattle.core_laws.specs.Protocol.{Layer, layer_label, layer_send, layer_skip, layer_ready, layer_asked, layer_told, class_of}
use Rattle.core_laws.specs.Protocol as protocol
use Rattle.core_laws.specs.Handling.{ready_due, stops_on}
use Rattle.core_laws.specs.Ties.{Are}
use Rattle.epoch_protocol.specs.declared.answers.Class.{Class}
use Rattle.epoch_protocol.specs.declared.answers.Class.TheVariants as class
use Rattle.epoch_protocol.specs.declared.answers.SendAs.{SendAs}
use Rattle.epoch_protocol.specs.declared.answers.SendAs.TheVariants.{Out, Suppressed}
use Rattle.epoch_protocol.specs.declared.answers.Told.{Told}
use Rattle.epoch_protocol.specs.declared.answers.Told.TheVariants as answer

-- the rank among so many, its layer by lists over the ranks, and the log since its checkpoint
pub record Kept : Type 0 where
  pub ranks : ℕ
  pub rank : ℕ
  pub epoch : ℕ
  pub logging : Bool
  pub asked : Bool
  pub was_ready : Bool
  pub sent : List ℕ
  pub got : List ℕ
  pub before : List ℕ
  pub early : List ℕ
  pub told : List (Option ℕ)
  pub skip : List ℕ
  pub log : List Entry

-- each list has an item for each rank
pub record HasEach (n : ℕ) (sent got before early : List ℕ) (told : List (Option ℕ)) (skip : List ℕ) : Type 0 where
  pub sents : length sent ≡ n
  pub gots : length got ≡ n
  pub befores : length before ≡ n
  pub earlies : length early ≡ n
  pub tolds : length told ≡ n
  pub skips : length skip ≡ n

-- rank r of n with this layer and this log
pub record IsLayer (n r : ℕ) (k : Kept) (l : Layer) (entries : List Entry) : Type 0 where
  pub ranks : k.ranks ≡ n
  pub rank : k.rank ≡ r
  pub epoch : k.epoch ≡ l.epoch
  pub logging : k.logging ≡ l.logging
  pub asked : k.asked ≡ l.asked
  pub was_ready : k.was_ready ≡ l.was_ready
  pub sent : Are n k.sent l.sent
  pub got : Are n k.got l.got
  pub before : Are n k.before l.old
  pub early : Are n k.early l.early
  pub told : Are n k.told l.told
  pub skip : Are n k.skip l.skip
  pub log : k.log ≡ entries

-- one more arrival from s can be counted
pub record HasRoom (k : Kept) (s : ℕ) : Type 0 where
  pub got : slice_index k.got s + 1 < 2 ^ 32
  pub before : slice_index k.before s + 1 < 2 ^ 32
  pub early : slice_index k.early s + 1 < 2 ^ 32

-- A send.
abbrev pub send_as : Layer → ℕ → SendAs
send_as l to = if nat_lt 0 (l.skip to) then Suppressed else Out (layer_label l)

abbrev pub after_send : Layer → ℕ → Layer
after_send l to = if nat_lt 0 (l.skip to) then layer_skip l to else layer_send l to

-- An arrival.
abbrev pub named : protocol.Class → Class
named protocol.Late = class.Late
named protocol.Intra = class.Intra
named protocol.Early = class.Early

abbrev pub met_as : Layer → Label → Class
met_as l x = if stops_on l x then class.IntraAndStopped else named (class_of l.epoch x.epoch)

-- what the counts see of it
abbrev pub counted_as : Class → protocol.Class
counted_as class.Late = protocol.Late
counted_as class.Intra = protocol.Intra
counted_as class.Early = protocol.Early
counted_as class.IntraAndStopped = protocol.Intra

-- the log of a rank that logs, and of any rank; one that is to stop logs no more
abbrev pub log_more : Class → List Entry → ℕ → Message → List Entry
log_more class.Late log s m = log ++ entry.Late s m ∷ []
log_more class.Intra log s m = log ++ entry.Intra s ∷ []
log_more class.Early log s m = log
log_more class.IntraAndStopped log s m = log

abbrev pub log_after : Bool → Class → List Entry → ℕ → Message → List Entry
log_after logging met log s m = if logging then log_more met log s m else log

-- Ready is said where it is due.
abbrev pub after_ready : ℕ → Layer → Layer
after_ready n l = if ready_due n l then layer_ready l else l

-- A control.
abbrev pub told_by : ℕ → Layer → ℕ → Control → Told
told_by n l s (Request line) = answer.Nothing
told_by n l s (Count line k) = if ready_due n (layer_told l s k) then answer.SendReady else answer.Nothing
told_by n l s (Ready line) = answer.Nothing
told_by n l s (Stop line) = if l.logging then answer.StopNow else answer.Nothing
told_by n l s (Stopped line) = answer.Nothing
told_by n l s Restored = answer.Nothing

abbrev pub after_control : ℕ → Layer → ℕ → Control → Layer
after_control n l s (Request line) = layer_asked l
after_control n l s (Count line k) = after_ready n (layer_told l s k)
after_control n l s (Ready line) = l
after_control n l s (Stop line) = l
after_control n l s (Stopped line) = l
after_control n l s Restored = l

-- what a rank writes at its stop after so many operations
abbrev pub log_of : ℕ → ℕ → ℕ → ℕ → List Entry → Log
log_of n r line ops entries = record { ranks = n; rank = r; line = line; stop = ops; entries = entries }
