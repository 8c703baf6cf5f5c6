-- What the protocol does at a turn, an arrival and a control.
use Rattle.std.specs.Prelude.{ℕ, zero, suc, Bool, true, false, not, ◌&&◌, List, [], ◌∷◌, Option, Some, None, ◌==◌, nat_lt, if◌then◌else◌}
use Rattle.mpi_words.specs.declared.control.Control.{Control}
use Rattle.mpi_words.specs.declared.control.Control.TheVariants.{Request, Count, Ready, Stop, Stopped, Restored}
use Rattle.mpi_words.specs.declared.label.Label.{Label}
use Rattle.mpi_words.specs.declared.message.Message.{Message}
use Rattle.core_laws.specs.Rows.{set_at}
use Rattle.core_laws.specs.Protocol.{Packet, Layer, Wave, Protocol, move_send, move_skip, move_note_restored, move_save, move_ready, move_stop, move_pop, move_asked, move_told, move_note_ready, move_note_stopped, move_tell_stop, move_commit, class_of}
use Rattle.core_laws.specs.Process.{Did, Local, Marked, Nothing, Sent}
use Rattle.core_laws.specs.Written.{Written, written_arrive}

-- whether a rank has saved in this wave, and whether it has stopped logging
abbrev pub after_save : Protocol → ℕ → Bool
after_save p r = (p.layer r).epoch == suc p.wave.line

abbrev pub after_stop : Protocol → ℕ → Bool
after_stop p r = ((p.layer r).epoch == suc p.wave.line) && not (p.layer r).logging

-- each of the n ranks passes
abbrev pub all_below : ℕ → (ℕ → Bool) → Bool
all_below zero f = true
all_below (suc n) f = f n && all_below n f

abbrev pub is_told : Option ℕ → ℕ → Bool
is_told None k = false
is_told (Some j) k = j == k

-- Ready is due where a rank logs, hasn't said it yet, and has got as many messages of the old epoch from each rank as that one says it sent.
abbrev pub ready_due : ℕ → Layer → Bool
ready_due n l = l.logging && (not l.was_ready && all_below n (λ x. is_told (l.told x) (l.old x)))

abbrev pub then_ready : ℕ → Protocol → ℕ → Protocol
then_ready n p r = if ready_due n (p.layer r) then move_ready p r else p

-- a send of a replay that had arrived before the receiver's checkpoint is counted, but left out
abbrev pub then_send : Protocol → ℕ → ℕ → Message → Protocol
then_send p r to m = if nat_lt 0 ((p.layer r).skip to) then move_skip p r to else move_send p r to m

abbrev pub protocol_after : ℕ → Protocol → ℕ → Did → Protocol
protocol_after n p r (Sent to m) = then_send p r to m
protocol_after n p r Nothing = p
protocol_after n p r Local = p
protocol_after n p r Marked = if (p.layer r).asked then then_ready n (move_save p r) r else p

-- a rank that logs stops where it meets a message that its sender sent after its own stop
abbrev pub stops_on : Layer → Label → Bool
stops_on l x = l.logging && ((x.epoch == l.epoch) && not x.logging)

abbrev pub stops_at : Layer → Packet → Bool
stops_at l x = stops_on l x.1

abbrev pub then_stop : Protocol → ℕ → Packet → Protocol
then_stop p r x = if stops_at (p.layer r) x then move_stop p r else p

abbrev pub written_delivered : {S : Type 0} → (ℕ → Written S) → Protocol → ℕ → ℕ → Packet → ℕ → Written S
written_delivered w p s r x = set_at w r (written_arrive (after_stop p r) (after_save p r) (class_of (p.layer r).epoch x.1.epoch) (w r) s x.0)

-- Rank 0 notes what names the line of the wave under way, once from each rank. It tells Stop when all are ready, and commits when all have stopped.
abbrev pub notes : Wave → ℕ → Bool → Bool
notes w line noted = w.under_way && ((line == suc w.line) && not noted)

abbrev pub then_tell_stop : ℕ → Protocol → Protocol
then_tell_stop n p = if all_below n p.wave.ready then move_tell_stop p else p

abbrev pub then_commit : ℕ → Protocol → Protocol
then_commit n p = if all_below n p.wave.stopped then move_commit p else p

-- a control from s to r is handled, the first on its channel
abbrev pub handles : ℕ → Protocol → ℕ → ℕ → List Control → Protocol
handles n p s r [] = p
handles n p s r (Request l ∷ rest) = move_asked p s r rest
handles n p s r (Count l k ∷ rest) = then_ready n (move_told p s r k rest) r
handles n p s r (Ready l ∷ rest) = if notes p.wave l (p.wave.ready s) then then_tell_stop n (move_note_ready p s r rest) else move_pop p s r rest
handles n p s r (Stop l ∷ rest) = if (p.layer r).logging then move_stop (move_pop p s r rest) r else move_pop p s r rest
handles n p s r (Stopped l ∷ rest) = if notes p.wave l (p.wave.stopped s) then then_commit n (move_note_stopped p s r rest) else move_pop p s r rest
handles n p s r (Restored ∷ rest) = move_note_restored p s r rest
