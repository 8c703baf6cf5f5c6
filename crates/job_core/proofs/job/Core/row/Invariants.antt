use Rattle.std.proofs.Common.{ℕ, List, ◌++◌}
use Rattle.core_laws.specs.Core as definition
use Rattle.core_laws.specs.CoreEvents.{below, row_events}
use Rattle.core_laws.specs.Pausing.{stepping}
use Rattle.core_laws.specs.PausingKept.{IsKeptPausing}
use Rattle.core_laws.specs.Quiet.{Event}
use Rattle.core_laws.specs.Ties.{Are}
use Rattle.job_network.specs.Members.{stepping_of}
use Rattle.job_core.specs.Sweeping.{taken, Swept}
use Rattle.job_core.proofs.Sweeps.{StillStands}
use Rattle.job_core.proofs.job.Core.row.Given as goal

abbrev pub invariant-loop-to : goal.invariant-loop-to
invariant-loop-to g l =
    StillStands g.P.Process.ended g.P.Process.bytes g.P.Process.among g.P.Process.serial g.P.Process.turned g.P.Process.answered g.P.Process.again l.fn.self l.self
    × ((begin : ℕ → g.row.P.Denot) (n : ℕ) (first : ℕ → ℕ) (c : definition.Core g.row.P.Denot) (es : List Event) (count : ℕ → ℕ) → IsKeptPausing (stepping_of begin g.P.Process.turned g.P.Process.answered g.P.Process.again) n c → Are n l.counts count
    → Swept g.P.Process.ended g.P.Process.bytes g.P.Process.among g.P.Process.saved (stepping (stepping_of begin g.P.Process.turned g.P.Process.answered g.P.Process.again)) n first c es l.fn.self l.fn.effects
    → Swept g.P.Process.ended g.P.Process.bytes g.P.Process.among g.P.Process.saved (stepping (stepping_of begin g.P.Process.turned g.P.Process.answered g.P.Process.again)) n first c (es ++ row_events (taken l.traffic l.from) count (below l.to)) l.self l.effects)
