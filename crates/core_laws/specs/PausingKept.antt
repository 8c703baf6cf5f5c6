-- What every event keeps of a core whose ranks pause.
use Rattle.std.specs.Prelude.{◌≡◌, ℕ, suc, ◌+◌, ◌<◌, ◌≤◌, Bool, true, false, List, nat_lt, if◌then◌else◌}
use Rattle.core_laws.specs.Protocol.{Protocol}
use Rattle.core_laws.specs.Quiet.{Event, Turn, Deliver, Handle, Begin_wave, Quiet, IsReached_of}
use Rattle.core_laws.specs.Process.{Want, Rank}
use Rattle.core_laws.specs.Written.{Written}
use Rattle.core_laws.specs.Handling.{after_save}
use Rattle.core_laws.specs.Stopping.{contents}
use Rattle.core_laws.specs.Line.{Logged, Stands, sends_to, intra_from, replayed}
use Rattle.core_laws.specs.Replay.{Replaying, entries, journal_of, PairLags, Lags}
use Rattle.core_laws.specs.Plan.{HasPlan}
use Rattle.core_laws.specs.Core.{Core, is_back, back_of, step_of}
use Rattle.core_laws.specs.Kept.{IsKept, Committed}
use Rattle.core_laws.specs.Pausing.{Paused, Stepping, Asks, stepping, without_pauses}

-- u is m after j pauses, and then perhaps a wait
pub data Rests {S : Type 0} (P : Stepping S) : ℕ → S → S → Type 0 where
  Same : {j : ℕ} {m u : S} → j ≡ 0 → m ≡ u → Rests P j m u
  After_wait : {j : ℕ} {m u : S} (w : Want) → j ≡ 0 → (P.step m).stop ≡ Asks w → (P.step m).machine ≡ u → Rests P j m u
  After_pause : {j : ℕ} {m u : S} (i : ℕ) → j ≡ suc i → (P.step m).stop ≡ Paused → Rests P i (P.step m).machine u → Rests P j m u

-- u is the rank k after so many pauses, and at most `most`
pub record IsRank {S : Type 0} (P : Stepping S) (most : ℕ) (k u : Rank S) : Type 0 where
  pub pauses : ℕ
  pub few : pauses ≤ most
  pub machine : Rests P pauses k.machine u.machine
  pub mail : u.mail ≡ k.mail
  pub output : u.output ≡ k.output

-- The images of ranks that haven't saved aren't compared.
abbrev pub compared : ℕ → Protocol → ℕ → Bool
compared n p r = if nat_lt r n then after_save p r else true

-- the same log and early counts, and where they are compared the same image
pub record IsSaved {S : Type 0} (is : Bool) (w v : Written S) : Type 0 where
  pub early : v.early ≡ w.early
  pub log : v.log ≡ w.log
  pub ops : v.ops ≡ w.ops
  pub image : is ≡ true → v.image ≡ w.image

-- c is the core a, but for local steps since each rank's last operation.
pub record IsCore {S : Type 0} (P : Stepping S) (n most : ℕ) (a c : Core S) : Type 0 where
  pub log : (r : ℕ) → (c.one r).log ≡ (a.one r).log
  pub left : (r : ℕ) → (c.one r).left ≡ (a.one r).left
  pub rank : (r : ℕ) → r < n → IsRank P most (a.one r).rank (c.one r).rank
  pub killed : c.killed ≡ a.killed
  pub beyond : (r : ℕ) → n ≤ r → (c.one r).rank ≡ (a.one r).rank
  pub saved : (r : ℕ) → IsSaved true (a.saved r) (c.saved r)
  pub written : (r : ℕ) → IsSaved (compared n a.protocol r) (a.written r) (c.written r)
  pub protocol : c.protocol ≡ a.protocol

-- A state that a quiet run of pausing ranks reaches, in which each rank that doesn't restore stands as it does, and which the core lags behind.
pub record IsBeside {S : Type 0} (P : Stepping S) (n b : ℕ) (a : Core S) (one : ℕ → Replaying S) : Type 0 where
  pub live : Quiet S
  pub reached : IsReached_of (stepping P) n live
  pub ahead : Quiet S
  pub since : ℕ → List Logged
  pub lags : Lags (without_pauses b P) n (back_of a) ahead since
  pub back : (r : ℕ) → r < n → is_back (a.one r) ≡ true → live.rank r ≡ (one r).rank
  pub restoring : (r : ℕ) → r < n → is_back (a.one r) ≡ false → live.rank r ≡ ahead.rank r
  pub channels : (s r : ℕ) → s < n → r < n → live.channel s r ≡ ahead.channel s r
  -- a rank that has made its operations again makes no local steps until it restores no more
  pub still : (r : ℕ) → r < n → (a.one r).left ≡ 0 → is_back (a.one r) ≡ false → (one r).rank ≡ (a.one r).rank

-- What is kept of a core whose ranks pause, where `b` bounds the events since the beginning or the restart, of which there were at most `most`:
-- it is a core without pauses that is kept, but for local steps.
pub record IsKeptWithin {S : Type 0} (P : Stepping S) (n b most : ℕ) (c : Core S) : Type 0 where
  pub core : Core S
  pub kept : IsKept (without_pauses b P) n core
  pub is : IsCore P n most core c
  pub beside : IsBeside P n b core c.one

-- What is kept however many events more there are: a bound that is enough for them can be chosen.
abbrev pub IsKeptPausing : {S : Type 0} → Stepping S → ℕ → Core S → Type 0
IsKeptPausing P n c = (more : ℕ) → (b : ℕ) × (most : ℕ) × (most + more ≤ b) × IsKeptWithin P n b most c

-- These images and logs are a committed line's for every bound from one on.
abbrev pub CommittedPausing : {S : Type 0} → Stepping S → ℕ → (ℕ → Written S) → Type 0
CommittedPausing P n v = (least : ℕ) × ((b : ℕ) → least ≤ b → Committed (without_pauses b P) n v)

-- The core lags behind the state `ahead`. A rank that doesn't restore stands in it as it does. Another, from its last operation on and
-- with the arrivals that its log still names, makes the operations that are left, and then stands in it as it does there.
pub record IsLagPausing {S : Type 0} (P : Stepping S) (n b : ℕ) (c : Core S) : Type 0 where
  pub ahead : Quiet S
  pub reached : IsReached_of (stepping P) n ahead
  pub restored : (r : ℕ) → r < n → is_back (c.one r) ≡ true → ahead.rank r ≡ (c.one r).rank
  -- each rank as after its last operation, and the arrivals of its log
  pub base : ℕ → Rank S
  pub since : ℕ → List Logged
  pub bases : (r : ℕ) → r < n → IsRank P b (base r) (c.one r).rank
  pub logs : (r : ℕ) → r < n → (c.one r).log ≡ entries (since r)
  pub restoring : (r : ℕ) → r < n → is_back (c.one r) ≡ false → Stands (without_pauses b P) (journal_of (record (c.one r) { rank = base r }) (since r)) (ahead.rank r)
  pub pairs : (s r : ℕ) → s < n → r < n → PairLags (contents (c.protocol.channel s r)) (sends_to r (replayed (without_pauses b P) (journal_of (record (c.one s) { rank = base s }) (since s))).sends) ((c.protocol.layer s).skip r) (intra_from s (since r)) (ahead.channel s r)
  -- some turns and deliveries would end the replay, were no rank killed
  pub plan : HasPlan (without_pauses b P) n (record { one = λ r. record (c.one r) { rank = base r }; channel = λ s r. contents (c.protocol.channel s r); skip = λ s r. (c.protocol.layer s).skip r })

-- In a wave no rank restores, and a quiet run of the pausing ranks reaches the live state, as far as there are ranks.
pub record IsLivePausing {S : Type 0} (P : Stepping S) (n : ℕ) (c : Core S) : Type 0 where
  pub back : (r : ℕ) → r < n → is_back (c.one r) ≡ true
  pub live : Quiet S
  pub reached : IsReached_of (stepping P) n live
  pub ranks : (r : ℕ) → r < n → live.rank r ≡ (c.one r).rank
  pub channels : (s r : ℕ) → s < n → r < n → live.channel s r ≡ contents (c.protocol.channel s r)

-- A turn of a restoring rank, or a delivery to one, that changes something.
abbrev pub IsReplay : {S : Type 0} → Core S → Event → Type 0
IsReplay c (Turn r) = is_back (c.one r) ≡ false
IsReplay c (Deliver s r) = is_back (c.one r) ≡ false
IsReplay c (Handle s r) = ⊥
IsReplay c Begin_wave = ⊥

pub record MovesOnPausing {S : Type 0} (P : Stepping S) (n : ℕ) (c : Core S) : Type 0 where
  pub event : Event
  pub restores : IsReplay c event
  pub effect : step_of (stepping P) n c event ≡ c → ⊥
