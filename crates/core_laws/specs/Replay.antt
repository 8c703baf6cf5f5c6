-- Ranks that replay from images and logs, and the quiet state that they lag behind.
use Rattle.std.specs.Prelude.{◌≡◌, ℕ, zero, suc, pred, ◌<◌, ◌≤◌, Bool, true, ◌&&◌, List, [], ◌∷◌, ◌++◌, ◌==◌, nat_lt, if◌then◌else◌, length, drop}
use Rattle.late_logs.specs.declared.entry.Entry.{Entry}
use Rattle.late_logs.specs.declared.entry.Entry.TheVariants.{Late as Late_entry, Intra as Intra_entry}
use Rattle.mpi_words.specs.declared.message.Message.{Message}
use Rattle.core_laws.specs.Rows.{set_at, set_pair}
use Rattle.core_laws.specs.Process.{Process, Rank, Did, Nothing, Sent, Local, Marked, turn, arrive, is_operation}
use Rattle.core_laws.specs.Quiet.{Quiet, Event, Turn, Deliver, Handle, Begin_wave, IsReached}
use Rattle.core_laws.specs.Line.{Logged, Journal, sends_to, intra_from, replayed, Stands}

abbrev pub entry : Logged → Entry
entry a = if a.late then Late_entry a.source a.message else Intra_entry a.source

abbrev pub entries : List Logged → List Entry
entries [] = []
entries (a ∷ l) = entry a ∷ entries l

-- one rank after a restart: what is left of its log, and of its operations until its stop
pub record Replaying (S : Type 0) : Type 0 where
  pub rank : Rank S
  pub log : List Entry
  pub left : ℕ

-- late entries at the log's front go into the mailbox at once
abbrev pub absorb : {S : Type 0} → ℕ → Rank S → List Entry → Replaying S
absorb left k [] = record { rank = k; log = []; left = left }
absorb left k (Late_entry s m ∷ l) = absorb left (arrive k s m) l
absorb left k (Intra_entry s ∷ l) = record { rank = k; log = Intra_entry s ∷ l; left = left }

pub record Back (S : Type 0) : Type 0 where
  pub one : ℕ → Replaying S
  pub channel : ℕ → ℕ → List Message
  pub skip : ℕ → ℕ → ℕ

-- a rank that has made its operations again but has entries left has no turn
abbrev pub may_turn : List Entry → ℕ → Bool
may_turn [] left = true
may_turn (e ∷ l) left = nat_lt 0 left

abbrev pub back_channel : (ℕ → ℕ → List Message) → (ℕ → ℕ → ℕ) → ℕ → Did → ℕ → ℕ → List Message
back_channel q skip r (Sent to m) = if nat_lt 0 (skip r to) then q else set_pair q r to (q r to ++ m ∷ [])
back_channel q skip r Nothing = q
back_channel q skip r Local = q
back_channel q skip r Marked = q

abbrev pub back_skip : (ℕ → ℕ → ℕ) → ℕ → Did → ℕ → ℕ → ℕ
back_skip skip r (Sent to m) = set_pair skip r to (pred (skip r to))
back_skip skip r Nothing = skip
back_skip skip r Local = skip
back_skip skip r Marked = skip

abbrev pub back_turn : {S : Type 0} → Process S → Back S → ℕ → Back S
back_turn P b r = let t = turn P (b.one r).rank in record {
  one = set_at b.one r (record (b.one r) { rank = t.rank; left = if is_operation t.did then pred (b.one r).left else (b.one r).left });
  channel = back_channel b.channel b.skip r t.did;
  skip = back_skip b.skip r t.did;
}

abbrev pub back_arrives : {S : Type 0} → Back S → ℕ → ℕ → Replaying S → Message → List Message → Back S
back_arrives b s r v m rest = record b { one = set_at b.one r v; channel = set_pair b.channel s r rest }

-- a delivery to a rank by what is left of its log
abbrev pub back_deliver : {S : Type 0} → Back S → ℕ → ℕ → List Message → List Entry → ℕ → Back S
back_deliver b s r [] log left = b
back_deliver b s r (m ∷ rest) [] zero = back_arrives b s r (record (b.one r) { rank = arrive (b.one r).rank s m }) m rest
back_deliver b s r (m ∷ rest) [] (suc left) = b
back_deliver b s r (m ∷ rest) (Late_entry a x ∷ log) left = b
back_deliver b s r (m ∷ rest) (Intra_entry a ∷ log) left = if a == s then back_arrives b s r (absorb (b.one r).left (arrive (b.one r).rank s m) log) m rest else b

abbrev pub back_next : {S : Type 0} → Process S → ℕ → Back S → Event → Back S
back_next P n b (Turn r) = if nat_lt r n && may_turn (b.one r).log (b.one r).left then back_turn P b r else b
back_next P n b (Deliver s r) = if nat_lt s n && nat_lt r n then back_deliver b s r (b.channel s r) (b.one r).log (b.one r).left else b
back_next P n b (Handle s r) = b
back_next P n b Begin_wave = b

abbrev pub back_run : {S : Type 0} → Process S → ℕ → Back S → List Event → Back S
back_run P n b [] = b
back_run P n b (e ∷ es) = back_run P n (back_next P n b e) es

-- the restart from these journals
abbrev pub restart : {S : Type 0} → (ℕ → Journal S) → Back S
restart j = record { one = λ r. absorb (j r).ops (j r).image (entries (j r).since); channel = λ s r. []; skip = λ s r. (j r).early s }

-- What is on the channel and what the sender still sends, without what it skips, is what the receiver's log still waits for, and v's channel.
pub record PairLags (channel sends : List Message) (skip : ℕ) (intra new : List Message) : Type 0 where
  pub enough : skip ≤ length sends
  pub rest : channel ++ drop skip sends ≡ intra ++ new

-- the journal of what is left
abbrev pub journal_of : {S : Type 0} → Replaying S → List Logged → Journal S
journal_of v since = record { image = v.rank; early = λ s. 0; since = since; ops = v.left }

-- Each rank, with the arrivals that its log still names, makes its operations and is then v's.
pub record Lags {S : Type 0} (P : Process S) (n : ℕ) (b : Back S) (v : Quiet S) (since : ℕ → List Logged) : Type 0 where
  pub logs : (r : ℕ) → r < n → (b.one r).log ≡ entries (since r)
  pub stands : (r : ℕ) → r < n → Stands P (journal_of (b.one r) (since r)) (v.rank r)
  pub pairs : (s r : ℕ) → s < n → r < n → PairLags (b.channel s r) (sends_to r (replayed P (journal_of (b.one s) (since s))).sends) (b.skip s r) (intra_from s (since r)) (v.channel s r)

pub record IsLag {S : Type 0} (P : Process S) (n : ℕ) (b : Back S) : Type 0 where
  pub ahead : Quiet S
  pub reached : IsReached P n ahead
  pub since : ℕ → List Logged
  pub lags : Lags P n b ahead since
