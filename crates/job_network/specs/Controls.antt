-- What a control brings about once it has left its channel, and what it comes to.
use Rattle.std.specs.Prelude.{ℕ, suc, Bool, true, not, ◌&&◌, List, [], ◌∷◌, nat_lt, if◌then◌else◌}
use Rattle.late_logs.specs.declared.entry.Entry.{Entry}
use Rattle.mpi_words.specs.declared.control.Control.{Control}
use Rattle.mpi_words.specs.declared.control.Control.TheVariants.{Request, Count, Ready, Stop, Stopped, Restored}
use Rattle.core_laws.specs.Rows.{set_at}
use Rattle.core_laws.specs.Protocol.{Protocol, layer_asked, layer_told, wave_note_ready, wave_note_stopped, move_stop}
use Rattle.core_laws.specs.Handling.{all_below, notes, then_ready, then_tell_stop, then_commit}
use Rattle.core_laws.specs.Core.{last_line}
use Rattle.epoch_protocol.specs.Layers.{log_of}
use Rattle.job_network.specs.declared.handling.Handled.{Handled}
use Rattle.job_network.specs.declared.handling.Handled.TheVariants as came

-- whether the wave of the next line may begin, but for a kill of rank 0
abbrev pub may_start : ℕ → Protocol → Bool
may_start n p = not p.wave.under_way && (nat_lt p.wave.line last_line && all_below n p.restored)

abbrev pub handled : ℕ → Protocol → ℕ → ℕ → Control → Protocol
handled n p s r (Request l) = record p { layer = set_at p.layer r (layer_asked (p.layer r)) }
handled n p s r (Count l k) = then_ready n (record p { layer = set_at p.layer r (layer_told (p.layer r) s k) }) r
handled n p s r (Ready l) = if notes p.wave l (p.wave.ready s) then then_tell_stop n (record p { wave = wave_note_ready p.wave s }) else p
handled n p s r (Stop l) = if (p.layer r).logging then move_stop p r else p
handled n p s r (Stopped l) = if notes p.wave l (p.wave.stopped s) then then_commit n (record p { wave = wave_note_stopped p.wave s }) else p
handled n p s r Restored = record p { restored = set_at p.restored s true }

-- what it comes to at a rank that has made so many operations
abbrev pub outcome : ℕ → ℕ → ℕ → ℕ → Protocol → (ℕ → List Entry) → Control → Handled
outcome n s r ops p logs (Request l) = came.Nothing
outcome n s r ops p logs (Count l k) = came.Nothing
outcome n s r ops p logs (Ready l) = came.Nothing
outcome n s r ops p logs (Stop l) = if (p.layer r).logging then came.Stopped (log_of n r (p.layer r).epoch ops (logs r)) else came.Nothing
outcome n s r ops p logs (Stopped l) = if notes p.wave l (p.wave.stopped s) && all_below n (set_at p.wave.stopped s true) then came.Committed (suc p.wave.line) else came.Nothing
outcome n s r ops p logs Restored = came.Nothing

abbrev pub outcome_of : ℕ → ℕ → ℕ → ℕ → Protocol → (ℕ → List Entry) → List Control → Handled
outcome_of n s r ops p logs [] = came.Nothing
outcome_of n s r ops p logs (x ∷ rest) = outcome n s r ops p logs x

-- which controls a rank's layer obeys, and which rank 0 notes
abbrev pub Obeys : Control → Type 0
Obeys (Request l) = Unit {0}
Obeys (Count l k) = Unit {0}
Obeys (Ready l) = ⊥
Obeys (Stop l) = Unit {0}
Obeys (Stopped l) = ⊥
Obeys Restored = ⊥

abbrev pub Notes : Control → Type 0
Notes (Request l) = ⊥
Notes (Count l k) = ⊥
Notes (Ready l) = Unit {0}
Notes (Stop l) = ⊥
Notes (Stopped l) = Unit {0}
Notes Restored = Unit {0}
