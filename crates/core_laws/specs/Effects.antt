-- What each event of the core writes.
use Rattle.std.specs.Prelude.{◌≡◌, ℕ, suc, Bool, true, not, ◌&&◌, List, [], ◌∷◌, ◌++◌, length, drop, nat_lt, if◌then◌else◌}
use Rattle.late_logs.specs.declared.entry.Entry.{Entry}
use Rattle.mpi_words.specs.declared.control.Control.{Control}
use Rattle.mpi_words.specs.declared.control.Control.TheVariants.{Request, Count, Ready, Stop, Stopped, Restored}
use Rattle.core_laws.specs.Rows.{set_at}
use Rattle.core_laws.specs.Protocol.{Packet, Layer}
use Rattle.core_laws.specs.Process.{Ranks, Rank, Did, Nothing, Sent, Local, Marked}
use Rattle.core_laws.specs.Quiet.{Event, Turn, Deliver, Handle, Begin_wave}
use Rattle.core_laws.specs.Written.{Written}
use Rattle.core_laws.specs.Handling.{all_below, notes, stops_at}
use Rattle.core_laws.specs.Replay.{may_turn}
use Rattle.core_laws.specs.Core.{Core, accepts, step_of}
use Rattle.core_laws.specs.CoreEvents.{sweep_events, Core_event, Single, Sweep, Kill}

pub data Effect (S : Type 0) : Type 0 where
  -- bytes of a rank's output
  Writes : ℕ → List ℕ → Effect S
  -- a rank's image, with its early counts
  Saves : ℕ → Rank S → (ℕ → ℕ) → Effect S
  -- a rank's log, and how many operations it made since its image
  Logs : ℕ → List Entry → ℕ → Effect S
  Commits : ℕ → Effect S

-- nothing is written where there are no bytes
abbrev pub writes : {S : Type 0} → ℕ → List ℕ → List (Effect S)
writes r [] = []
writes r (b ∷ bytes) = Writes r (b ∷ bytes) ∷ []

abbrev pub turn_effects : {S : Type 0} → Layer → ℕ → List ℕ → Rank S → Did → List (Effect S)
turn_effects l r before k Nothing = []
turn_effects l r before k (Sent to m) = []
turn_effects l r before k Local = writes r (drop (length before) k.output)
turn_effects l r before k Marked = if l.asked then Saves r k l.early ∷ [] else []

abbrev pub log_effects : {S : Type 0} → ℕ → Written S → Bool → List (Effect S)
log_effects r w stops = if stops then Logs r w.log w.ops ∷ [] else []

abbrev pub arrival_effects : {S : Type 0} → Core S → ℕ → List Packet → List (Effect S)
arrival_effects c r [] = []
arrival_effects c r (x ∷ rest) = log_effects r (c.written r) (stops_at (c.protocol.layer r) x)

abbrev pub control_effects : {S : Type 0} → ℕ → Core S → ℕ → ℕ → List Control → List (Effect S)
control_effects n c s r [] = []
control_effects n c s r (Request l ∷ rest) = []
control_effects n c s r (Count l k ∷ rest) = []
control_effects n c s r (Ready l ∷ rest) = []
control_effects n c s r (Stop l ∷ rest) = log_effects r (c.written r) (c.protocol.layer r).logging
control_effects n c s r (Stopped l ∷ rest) = if notes c.protocol.wave l (c.protocol.wave.stopped s) && all_below n (set_at c.protocol.wave.stopped s true) then Commits (suc c.protocol.wave.line) ∷ [] else []
control_effects n c s r (Restored ∷ rest) = []

abbrev pub step_effects_of : {S : Type 0} → Ranks S → ℕ → Core S → Event → List (Effect S)
step_effects_of P n c (Turn r) = if nat_lt r n && (not (c.killed r) && may_turn (c.one r).log (c.one r).left) then turn_effects (c.protocol.layer r) r (c.one r).rank.output (P.turn_of (c.one r).rank).rank (P.turn_of (c.one r).rank).did else []
step_effects_of P n c (Deliver s r) = if nat_lt s n && (nat_lt r n && (not (c.killed r) && accepts (c.one r).log (c.one r).left s)) then arrival_effects c r (c.protocol.channel s r) else []
step_effects_of P n c (Handle s r) = if nat_lt s n && (nat_lt r n && not (c.killed r)) then control_effects n c s r (c.protocol.control s r) else []
step_effects_of P n c Begin_wave = []

abbrev pub steps_effects_of : {S : Type 0} → Ranks S → ℕ → Core S → List Event → List (Effect S)
steps_effects_of P n c [] = []
steps_effects_of P n c (e ∷ es) = step_effects_of P n c e ++ steps_effects_of P n (step_of P n c e) es

abbrev pub effects_of : {S : Type 0} → Ranks S → ℕ → Core S → Core_event → List (Effect S)
effects_of P n c (Single e) = step_effects_of P n c e
effects_of P n c Sweep = steps_effects_of P n c (sweep_events n c.protocol)
effects_of P n c (Kill r) = []

-- a list has this element
pub record Has {A : Type 0} (xs : List A) (x : A) : Type 0 where
  pub before : List A
  pub after : List A
  pub split : xs ≡ before ++ x ∷ after
