-- Rank 0's wave as code keeps it, and its answers.
use Rattle.std.specs.Prelude.{◌≡◌, ℕ, zero, suc, Bool, true, false, not, ◌&&◌, List, Option, Some, None, ◌==◌, nat_lt, if◌then◌else◌}
use Rattle.mpi_words.specs.declared.control.Control.{Control}
use Rattle.mpi_words.specs.declared.control.Control.TheVariants.{Request, Count, Ready, Stop, Stopped, Restored}
use Rattle.core_laws.specs.Rows.{set_at}
use Rattle.core_laws.specs.Protocol.{Wave, wave_start, wave_note_ready, wave_note_stopped, wave_tell_stop, wave_over}
use Rattle.core_laws.specs.Handling.{all_below, notes}
use Rattle.core_laws.specs.Core.{last_line}
use Rattle.core_laws.specs.Ties.{Are}
use Rattle.wave_commit.specs.declared.wave.Next.{Next}
use Rattle.wave_commit.specs.declared.wave.Next.TheVariants.{Nothing, TellStop, Commit}
use Rattle.wave_commit.specs.declared.wave.Started.{Started}
use Rattle.wave_commit.specs.declared.wave.Started.TheVariants as started
use Rattle.wave_commit.specs.declared.wave.NotNow.TheVariants.{Rank, UnderWay, LastLine}

-- the line of the wave under way, and by ranks who has told that it restores no more, who is ready, and who has stopped
pub record Noted : Type 0 where
  pub line : Option ℕ
  pub restored : List Bool
  pub ready : List Bool
  pub stopped : List Bool

abbrev pub line_of : Wave → Option ℕ
line_of w = if w.under_way then Some (suc w.line) else None

-- Who was noted counts while a wave is under way.
pub record IsWave (n : ℕ) (noted : Noted) (w : Wave) (told : ℕ → Bool) : Type 0 where
  pub line : noted.line ≡ line_of w
  pub restored : Are n noted.restored told
  pub ready : w.under_way ≡ true → Are n noted.ready w.ready
  pub stopped : w.under_way ≡ true → Are n noted.stopped w.stopped

-- the lowest of n ranks that fails a test, where one does
abbrev pub lowest_failing : ℕ → (ℕ → Bool) → ℕ
lowest_failing zero f = 0
lowest_failing (suc n) f = if all_below n f then n else lowest_failing n f

abbrev pub first_failing : ℕ → (ℕ → Bool) → Option ℕ
first_failing n f = if all_below n f then None else Some (lowest_failing n f)

-- What a start comes to, and the wave after it.
abbrev pub start_of : ℕ → Wave → (ℕ → Bool) → Started
start_of n w restored =
    if not (all_below n restored) then started.NotNow (Rank (lowest_failing n restored)) else
    if w.under_way then started.NotNow (UnderWay (suc w.line)) else
    if nat_lt w.line last_line then started.Started else started.NotNow LastLine

abbrev pub begun : Started → Wave → Wave
begun started.Started w = wave_start w
begun (started.NotNow why) w = w

-- whether a Ready or Stopped of a line is noted, by the line of the wave under way and whether one from its sender was noted before
abbrev pub is_new : Option ℕ → ℕ → Bool → Bool
is_new None line noted = false
is_new (Some its) line noted = (line == its) && not noted

-- The wave after a control.
abbrev pub all_ready : ℕ → Wave → Wave
all_ready n w = if all_below n w.ready then wave_tell_stop w else w

abbrev pub all_stopped : ℕ → Wave → Wave
all_stopped n w = if all_below n w.stopped then wave_over w else w

abbrev pub wave_after : ℕ → Wave → ℕ → Control → Wave
wave_after n w s (Request l) = w
wave_after n w s (Count l k) = w
wave_after n w s (Ready l) = if notes w l (w.ready s) then all_ready n (wave_note_ready w s) else w
wave_after n w s (Stop l) = w
wave_after n w s (Stopped l) = if notes w l (w.stopped s) then all_stopped n (wave_note_stopped w s) else w
wave_after n w s Restored = w

abbrev pub restored_after : (ℕ → Bool) → ℕ → Control → ℕ → Bool
restored_after restored s (Request l) = restored
restored_after restored s (Count l k) = restored
restored_after restored s (Ready l) = restored
restored_after restored s (Stop l) = restored
restored_after restored s (Stopped l) = restored
restored_after restored s Restored = set_at restored s true

-- what is to be done then
abbrev pub next_of : ℕ → Wave → ℕ → Control → Next
next_of n w s (Request l) = Nothing
next_of n w s (Count l k) = Nothing
next_of n w s (Ready l) = if notes w l (w.ready s) && all_below n (wave_note_ready w s).ready then TellStop (suc w.line) else Nothing
next_of n w s (Stop l) = Nothing
next_of n w s (Stopped l) = if notes w l (w.stopped s) && all_below n (wave_note_stopped w s).stopped then Commit (suc w.line) else Nothing
next_of n w s Restored = Nothing
