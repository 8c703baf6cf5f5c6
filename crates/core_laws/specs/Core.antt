-- The core: ranks that run or replay, their channels and layers, checkpoint waves, and kills.
use Rattle.std.specs.Prelude.{ℕ, zero, suc, pred, Bool, true, false, not, ◌&&◌, List, [], ◌∷◌, ◌==◌, nat_lt, if◌then◌else◌}
use Rattle.late_logs.specs.declared.entry.Entry.{Entry}
use Rattle.late_logs.specs.declared.entry.Entry.TheVariants.{Late as Late_entry, Intra as Intra_entry}
use Rattle.mpi_words.specs.declared.message.Message.{Message}
use Rattle.core_laws.specs.Rows.{set_at}
use Rattle.core_laws.specs.Protocol.{Packet, Protocol, move_arrive, move_tell_restored, move_start}
use Rattle.core_laws.specs.Process.{Process, Rank, Ranks, ranks, Turned, is_operation, arrive}
use Rattle.core_laws.specs.Quiet.{Event, Turn, Deliver, Handle, Begin_wave}
use Rattle.core_laws.specs.Written.{written_turn, written_now, Written}
use Rattle.core_laws.specs.Handling.{written_delivered, after_save, after_stop, all_below, then_ready, then_stop, protocol_after, handles}
use Rattle.core_laws.specs.Stopping.{contents}
use Rattle.core_laws.specs.Replay.{Replaying, absorb, Back, may_turn}

-- A rank that doesn't restore has no entries left and no operations to make again.
pub record Core (S : Type 0) : Type 0 where
  pub one : ℕ → Replaying S
  pub killed : ℕ → Bool
  -- the images and logs of the committed line, and those of the wave
  pub saved : ℕ → Written S
  pub written : ℕ → Written S
  pub protocol : Protocol

-- whether a rank restores that has this log and so many operations left
abbrev pub restores : List Entry → ℕ → Bool
restores [] zero = false
restores [] (suc left) = true
restores (e ∷ log) left = true

abbrev pub is_back : {S : Type 0} → Replaying S → Bool
is_back v = not (restores v.log v.left)

-- a rank that restores no more tells rank 0
abbrev pub then_restored : Bool → Bool → Protocol → ℕ → Protocol
then_restored was now p r = if not was && now then move_tell_restored p r else p

-- A turn of one rank.
abbrev pub one_turned : {S : Type 0} → Replaying S → Turned S → Replaying S
one_turned v t = record v { rank = t.rank; left = if is_operation t.did then pred v.left else v.left }

abbrev pub core_turned : {S : Type 0} → ℕ → Core S → ℕ → Turned S → Core S
core_turned n c r t = record c {
  one = set_at c.one r (one_turned (c.one r) t);
  written = set_at c.written r (written_turn (after_stop c.protocol r) (after_save c.protocol r) (c.written r) t);
  protocol = then_restored (is_back (c.one r)) (is_back (one_turned (c.one r) t)) (protocol_after n c.protocol r t.did) r;
}

-- Whether a rank takes a message of rank s off its channel: where it doesn't restore, or where its log's next entry waits for one of s.
abbrev pub accepts : List Entry → ℕ → ℕ → Bool
accepts [] zero s = true
accepts [] (suc left) s = false
accepts (Late_entry a m ∷ log) left s = false
accepts (Intra_entry a ∷ log) left s = a == s

abbrev pub landed : {S : Type 0} → Replaying S → List Entry → ℕ → Message → Replaying S
landed v [] s m = record v { rank = arrive v.rank s m }
landed v (e ∷ log) s m = absorb v.left (arrive v.rank s m) log

abbrev pub core_arrived : {S : Type 0} → ℕ → Core S → ℕ → ℕ → Replaying S → Packet → List Packet → Core S
core_arrived n c s r v x rest = record c {
  one = set_at c.one r v;
  written = written_delivered c.written (then_stop c.protocol r x) s r x;
  protocol = then_restored (is_back (c.one r)) (is_back v) (then_ready n (move_arrive (then_stop c.protocol r x) s r x.1.epoch rest) r) r;
}

abbrev pub core_delivers : {S : Type 0} → ℕ → Core S → ℕ → ℕ → List Packet → Core S
core_delivers n c s r [] = c
core_delivers n c s r (x ∷ rest) = core_arrived n c s r (landed (c.one r) (c.one r).log s x.0) x rest

-- A control is handled. Where it commits the line, the images and logs of the wave become the line's.
abbrev pub core_handled : {S : Type 0} → Core S → Protocol → Core S
core_handled c p = record c { protocol = p; saved = if nat_lt c.protocol.wave.line p.wave.line then c.written else c.saved }

abbrev pub rank_of : {S : Type 0} → (ℕ → Replaying S) → ℕ → Rank S
rank_of one r = (one r).rank

unfoldable pub last_line : ℕ
last_line = 65535

abbrev pub may_begin : {S : Type 0} → ℕ → Core S → Bool
may_begin n c = not (c.killed 0) && (not c.protocol.wave.under_way && (nat_lt c.protocol.wave.line last_line && all_below n c.protocol.restored))

abbrev pub core_began : {S : Type 0} → Core S → Core S
core_began c = record c { written = written_now (rank_of c.one) c.protocol; protocol = move_start c.protocol }

-- One turn, one delivery, one control, or the beginning of a wave.
abbrev pub step_of : {S : Type 0} → Ranks S → ℕ → Core S → Event → Core S
step_of P n c (Turn r) = if nat_lt r n && (not (c.killed r) && may_turn (c.one r).log (c.one r).left) then core_turned n c r (P.turn_of (c.one r).rank) else c
step_of P n c (Deliver s r) = if nat_lt s n && (nat_lt r n && (not (c.killed r) && accepts (c.one r).log (c.one r).left s)) then core_delivers n c s r (c.protocol.channel s r) else c
step_of P n c (Handle s r) = if nat_lt s n && (nat_lt r n && not (c.killed r)) then core_handled c (handles n c.protocol s r (c.protocol.control s r)) else c
step_of P n c Begin_wave = if may_begin n c then core_began c else c

abbrev pub steps_of : {S : Type 0} → Ranks S → ℕ → Core S → List Event → Core S
steps_of P n c [] = c
steps_of P n c (e ∷ es) = steps_of P n (step_of P n c e) es

-- The same of a process.
abbrev pub step : {S : Type 0} → Process S → ℕ → Core S → Event → Core S
step P = step_of (ranks P)

abbrev pub steps : {S : Type 0} → Process S → ℕ → Core S → List Event → Core S
steps P = steps_of (ranks P)

-- The core without its protocol: a machine that replays.
abbrev pub back_of : {S : Type 0} → Core S → Back S
back_of c = record { one = c.one; channel = λ s r. contents (c.protocol.channel s r); skip = λ s r. (c.protocol.layer s).skip r }
