-- What an image and its log stand for: the rank's operations since its save.
use Rattle.std.specs.Prelude.{◌≡◌, ℕ, zero, suc, ◌+◌, ◌<◌, ◌≤◌, Bool, true, false, not, ◌&&◌, List, [], ◌∷◌, ◌++◌, ◌==◌, if◌then◌else◌, length, drop}
use Rattle.mpi_words.specs.declared.message.Message.{Message}
use Rattle.core_laws.specs.Protocol.{Packet, Layer, Protocol, Class, early_more, is_late}
use Rattle.core_laws.specs.Process.{Process, Rank, Did, Nothing, Sent, Local, Marked, Turned, turn, arrive, is_operation}
use Rattle.core_laws.specs.Quiet.{Quiet}
use Rattle.core_laws.specs.Stopping.{has_stopped, is_after, contents}

-- an arrival since the save, as it is logged; an entry of an intra arrival is without its message in the log
pub record Logged : Type 0 where
  pub source : ℕ
  pub message : Message
  pub late : Bool

pub record Sending : Type 0 where
  pub to : ℕ
  pub message : Message

-- operations of one rank by itself
pub record Made (S : Type 0) : Type 0 where
  pub rank : Rank S
  pub sends : List Sending
  pub all_made : Bool

abbrev pub sendings : Did → List Sending
sendings (Sent to m) = record { to = to; message = m } ∷ []
sendings Nothing = []
sendings Local = []
sendings Marked = []

abbrev pub one_more : {S : Type 0} → Process S → Made S → Made S
one_more P m = record { rank = (turn P m.rank).rank; sends = m.sends ++ sendings (turn P m.rank).did; all_made = m.all_made && is_operation (turn P m.rank).did }

-- the first k operations of this rank
abbrev pub made : {S : Type 0} → Process S → ℕ → Rank S → Made S
made P zero k = record { rank = k; sends = []; all_made = true }
made P (suc j) k = one_more P (made P j k)

-- with all these arrivals in its mailbox
abbrev pub filled : {S : Type 0} → Rank S → List Logged → Rank S
filled k [] = k
filled k (a ∷ l) = filled (arrive k a.source a.message) l

-- what goes to one rank, and the contents of the intra entries of one source
abbrev pub sends_to : ℕ → List Sending → List Message
sends_to r [] = []
sends_to r (x ∷ l) = if x.to == r then x.message ∷ sends_to r l else sends_to r l

abbrev pub intra_from : ℕ → List Logged → List Message
intra_from s [] = []
intra_from s (a ∷ l) = if (a.source == s) && not a.late then a.message ∷ intra_from s l else intra_from s l

-- the messages of epoch L+1
abbrev pub new_in : ℕ → List Packet → List Message
new_in L [] = []
new_in L (x ∷ q) = if x.1.epoch == suc L then x.0 ∷ new_in L q else new_in L q

-- what of a channel is in the cut: all but what was sent after its sender's stop
abbrev pub in_cut : ℕ → List Packet → List Packet
in_cut L [] = []
in_cut L (x ∷ q) = if is_after L x then in_cut L q else x ∷ in_cut L q

-- how many messages of an older epoch are on the channel
abbrev pub old_in : ℕ → List Packet → ℕ
old_in L [] = 0
old_in L (x ∷ q) = (if x.1.epoch == suc L then 0 else 1) + old_in L q

-- One rank's image, the early counts in it, and its arrivals and operations since.
pub record Journal (S : Type 0) : Type 0 where
  pub image : Rank S
  pub early : ℕ → ℕ
  pub since : List Logged
  pub ops : ℕ

-- the cut with labels on its channels, and the journals that lead to it
pub record Cut (S : Type 0) : Type 0 where
  pub rank : ℕ → Rank S
  pub channel : ℕ → ℕ → List Packet
  pub journal : ℕ → Journal S

abbrev pub quiet_of : {S : Type 0} → Cut S → Quiet S
quiet_of c = record { rank = c.rank; channel = λ s r. contents (c.channel s r) }

abbrev pub replayed : {S : Type 0} → Process S → Journal S → Made S
replayed P j = made P j.ops (filled j.image j.since)

-- what s sends, without the first `early`, is what arrived intra and what is on the channel
pub record PairFits (sends : List Message) (early : ℕ) (intra new : List Message) : Type 0 where
  pub enough : early ≤ length sends
  pub rest : drop early sends ≡ intra ++ new

-- an image and log stand for the rank in the cut
pub record Stands {S : Type 0} (P : Process S) (j : Journal S) (k : Rank S) : Type 0 where
  pub all_made : (replayed P j).all_made ≡ true
  pub rank : (replayed P j).rank ≡ k

-- the journal of a rank that hasn't saved yet
pub record Unsaved {S : Type 0} (j : Journal S) (l : Layer) : Type 0 where
  pub since : j.since ≡ []
  pub ops : j.ops ≡ 0
  pub early : (s : ℕ) → j.early s ≡ l.early s

pub record IsLine {S : Type 0} (P : Process S) (n : ℕ) (p : Protocol) (c : Cut S) : Type 0 where
  -- what is old in the cut is old on the channel
  pub olds : (s r : ℕ) → s < n → r < n → old_in p.wave.line (c.channel s r) ≤ old_in p.wave.line (p.channel s r)
  pub stands : (r : ℕ) → r < n → Stands P (c.journal r) (c.rank r)
  pub unsaved : (r : ℕ) → r < n → (p.layer r).epoch ≡ p.wave.line → Unsaved (c.journal r) (p.layer r)
  pub fits : (s r : ℕ) → s < n → r < n → PairFits (sends_to r (replayed P (c.journal s)).sends) ((c.journal r).early s) (intra_from s (c.journal r).since) (new_in p.wave.line (c.channel s r))

-- How the cut goes on.
abbrev pub journal_turn : {S : Type 0} → Bool → Journal S → Turned S → Journal S
journal_turn true j t = record j { ops = if is_operation t.did then suc j.ops else j.ops }
journal_turn false j t = record j { image = t.rank }

abbrev pub journal_arrive : {S : Type 0} → Bool → Class → Journal S → ℕ → Message → Journal S
journal_arrive true cl j s m = record j { since = j.since ++ record { source = s; message = m; late = is_late cl } ∷ [] }
journal_arrive false cl j s m = record j { image = arrive j.image s m; early = early_more cl j.early s }

-- For each rank that hasn't stopped, the cut is as the live ranks and channels are.
pub record Follows {S : Type 0} (n : ℕ) (rank : ℕ → Rank S) (p : Protocol) (c : Cut S) : Type 0 where
  pub ranks : (r : ℕ) → r < n → has_stopped p.wave.line (p.layer r) ≡ false → c.rank r ≡ rank r
  pub channels : (s r : ℕ) → s < n → r < n → has_stopped p.wave.line (p.layer r) ≡ false → c.channel s r ≡ in_cut p.wave.line (p.channel s r)
