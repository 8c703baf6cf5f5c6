-- What code writes at an event.
use Rattle.std.specs.Prelude.{◌≡◌, ℕ, ◌+◌, List, [], ◌∷◌, Option, Some, None}
use Rattle.late_logs.specs.declared.log.Log.{Log}
use Rattle.late_logs.specs.declared.entry.Entry.{Entry}
use Rattle.image_text.specs.declared.image.Image.{Image}
use Rattle.image_text.specs.declared.state.RankState.{RankState}
use Rattle.core_laws.specs.Process.{Rank}
use Rattle.core_laws.specs.Ties.{Are}
use Rattle.core_laws.specs.Effects.{Writes, Saves, Logs, Commits}
use Rattle.core_laws.specs.Effects as definition
use Rattle.job_core.specs.declared.effect.Effect.{Effect}
use Rattle.job_core.specs.declared.effect.Effect.TheVariants.{Output, Save, WriteLog, Commit}
use Rattle.job_network.specs.declared.handling.Handled.{Handled}
use Rattle.job_network.specs.declared.handling.Handled.TheVariants as came

-- rank r's log of n ranks, with these entries, and so many operations after the `first` that came before its image
pub record IsLog (n first r : ℕ) (log : Log) (entries : List Entry) (ops : ℕ) : Type 0 where
  pub ranks : log.ranks ≡ n
  pub rank : log.rank ≡ r
  pub stop : log.stop ≡ first + ops
  pub entries_are : log.entries ≡ entries

-- rank r's image for a line, after so many operations, with these early counts
pub record IsImage {S : Type 0} (saved : S → RankState) (n r line ops : ℕ) (image : Image) (k : Rank S) (early : ℕ → ℕ) : Type 0 where
  pub ranks : image.ranks ≡ n
  pub rank : image.rank ≡ r
  pub line_is : image.line ≡ line
  pub ops_are : image.ops ≡ ops
  pub state : image.state ≡ saved k.machine
  pub mailbox : image.mailbox ≡ k.mail
  pub counts : Are n image.early early

-- an effect of n ranks, by the line of each rank's next save, and its operations at its last
abbrev pub IsEffect : {S : Type 0} → (S → RankState) → ℕ → (ℕ → ℕ) → (ℕ → ℕ) → Effect → definition.Effect S → Type 0
IsEffect saved n line first (Output rank bytes) (Writes r its) = (rank ≡ r) × (bytes ≡ its)
IsEffect saved n line first (Output rank bytes) (Saves r k early) = ⊥
IsEffect saved n line first (Output rank bytes) (Logs r entries ops) = ⊥
IsEffect saved n line first (Output rank bytes) (Commits its) = ⊥
IsEffect saved n line first (Save rank image) (Writes r its) = ⊥
IsEffect saved n line first (Save rank image) (Saves r k early) = (rank ≡ r) × IsImage saved n r (line r) (first r) image k early
IsEffect saved n line first (Save rank image) (Logs r entries ops) = ⊥
IsEffect saved n line first (Save rank image) (Commits its) = ⊥
IsEffect saved n line first (WriteLog rank log) (Writes r its) = ⊥
IsEffect saved n line first (WriteLog rank log) (Saves r k early) = ⊥
IsEffect saved n line first (WriteLog rank log) (Logs r entries ops) = (rank ≡ r) × IsLog n (first r) r log entries ops
IsEffect saved n line first (WriteLog rank log) (Commits its) = ⊥
IsEffect saved n line first (Commit committed) (Writes r its) = ⊥
IsEffect saved n line first (Commit committed) (Saves r k early) = ⊥
IsEffect saved n line first (Commit committed) (Logs r entries ops) = ⊥
IsEffect saved n line first (Commit committed) (Commits its) = committed ≡ its

-- what a control writes at a rank
abbrev pub written_by : ℕ → Handled → List Effect
written_by rank came.Nothing = []
written_by rank (came.Stopped log) = WriteLog rank log ∷ []
written_by rank (came.Committed line) = Commit line ∷ []

-- what an arrival writes at a rank
abbrev pub logged_by : ℕ → Option Log → List Effect
logged_by rank None = []
logged_by rank (Some log) = WriteLog rank log ∷ []
