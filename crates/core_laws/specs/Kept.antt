-- What every event of the core keeps.
use Rattle.std.specs.Prelude.{◌≡◌, ℕ, ◌+◌, ◌<◌, true}
use Rattle.core_laws.specs.Protocol.{Protocol}
use Rattle.core_laws.specs.Process.{Process, Rank}
use Rattle.core_laws.specs.Quiet.{Quiet, Event, IsReached}
use Rattle.core_laws.specs.Written.{Written}
use Rattle.core_laws.specs.Invariant.{Invariant, bit, tells_on}
use Rattle.core_laws.specs.Stopping.{contents}
use Rattle.core_laws.specs.Line.{Cut, quiet_of, Follows, IsLine, Journal, Stands, PairFits, sends_to, intra_from, replayed}
use Rattle.core_laws.specs.Replay.{Replaying, entries, restart, IsLag}
use Rattle.core_laws.specs.Plan.{HasPlan, Helps}
use Rattle.core_laws.specs.Core.{Core, is_back, rank_of, back_of, step}

-- the journal is what was written, and it has the messages of the intra entries too
pub record IsWritten {S : Type 0} (j : Journal S) (w : Written S) : Type 0 where
  pub image : j.image ≡ w.image
  pub early : (s : ℕ) → j.early s ≡ w.early s
  pub log : entries j.since ≡ w.log
  pub ops : j.ops ≡ w.ops

-- In a wave the cut is reached by a quiet run, and the images and logs so far stand for it.
pub record HasLine {S : Type 0} (P : Process S) (n : ℕ) (rank : ℕ → Rank S) (p : Protocol) (v : ℕ → Written S) : Type 0 where
  pub cut : Cut S
  pub written : (r : ℕ) → IsWritten (cut.journal r) (v r)
  pub reached : IsReached P n (quiet_of cut)
  pub follows : Follows n rank p cut
  pub line : IsLine P n p cut
  -- and a restart from them would come to its end
  pub plan : HasPlan P n (restart cut.journal)

-- Images and logs stand for a quiet state that a quiet run reaches, and a restart from them comes to its end.
pub record StandFor {S : Type 0} (P : Process S) (n : ℕ) (j : ℕ → Journal S) (g : Quiet S) : Type 0 where
  pub reached : IsReached P n g
  pub ranks : (r : ℕ) → r < n → Stands P (j r) (g.rank r)
  pub pairs : (s r : ℕ) → s < n → r < n → PairFits (sends_to r (replayed P (j s)).sends) ((j r).early s) (intra_from s (j r).since) (g.channel s r)
  pub plan : HasPlan P n (restart j)

-- the journals of a committed line, and what they stand for
pub record Committed {S : Type 0} (P : Process S) (n : ℕ) (v : ℕ → Written S) : Type 0 where
  pub journal : ℕ → Journal S
  pub written : (r : ℕ) → IsWritten (journal r) (v r)
  pub line : Quiet S
  pub stand : StandFor P n journal line

-- A rank tells once that it restores no more, and not before; a wave begins when all have told.
pub record Tells {S : Type 0} (n : ℕ) (one : ℕ → Replaying S) (p : Protocol) : Type 0 where
  pub told : (r : ℕ) → r < n → tells_on (p.control r 0) + bit (p.restored r) ≡ bit (is_back (one r))
  pub wave : p.wave.under_way ≡ true → (r : ℕ) → r < n → p.restored r ≡ true

-- What every event and the restart keep.
pub record IsKept {S : Type 0} (P : Process S) (n : ℕ) (c : Core S) : Type 0 where
  pub protocol : Invariant n c.protocol
  pub tells : Tells n c.one c.protocol
  -- the core lags behind a state that a quiet run reaches, and the replay would come to its end
  pub lag : IsLag P n (back_of c)
  pub plan : HasPlan P n (back_of c)
  pub wave : c.protocol.wave.under_way ≡ true → HasLine P n (rank_of c.one) c.protocol c.written
  -- the last committed line stands for such a state
  pub saved : Committed P n c.saved

-- In a wave no rank restores, and the live state is reached by a quiet run, as far as there are ranks.
pub record IsLive {S : Type 0} (P : Process S) (n : ℕ) (c : Core S) : Type 0 where
  pub back : (r : ℕ) → r < n → is_back (c.one r) ≡ true
  pub live : Quiet S
  pub reached : IsReached P n live
  pub ranks : (r : ℕ) → r < n → live.rank r ≡ (c.one r).rank
  pub channels : (s r : ℕ) → s < n → r < n → live.channel s r ≡ contents (c.protocol.channel s r)

-- A turn of a restoring rank, or a delivery to one, that changes something.
pub record MovesOn {S : Type 0} (P : Process S) (n : ℕ) (c : Core S) : Type 0 where
  pub event : Event
  pub restores : Helps P n (back_of c) event
  pub effect : step P n c event ≡ c → ⊥
