use Rattle.std.proofs.Common.{ℕ, List, ◌++◌}
use Rattle.core_laws.specs.Core as definition
use Rattle.core_laws.specs.CoreEvents.{times}
use Rattle.core_laws.specs.Pausing.{stepping}
use Rattle.core_laws.specs.PausingKept.{IsKeptPausing}
use Rattle.core_laws.specs.Quiet.{Event}
use Rattle.job_network.specs.Members.{stepping_of}
use Rattle.job_core.specs.Sweeping.{taken, Swept}
use Rattle.job_core.proofs.Sweeps.{StillStands}
use Rattle.job_core.proofs.job.Core.times.Given as goal

abbrev pub invariant-loop : goal.invariant-loop
invariant-loop g l =
    StillStands g.P.Process.ended g.P.Process.bytes g.P.Process.among g.P.Process.serial g.P.Process.turned g.P.Process.answered g.P.Process.again l.fn.self l.self
    × ((begin : ℕ → g.row.P.Denot) (n : ℕ) (first : ℕ → ℕ) (c : definition.Core g.row.P.Denot) (es : List Event) → IsKeptPausing (stepping_of begin g.P.Process.turned g.P.Process.answered g.P.Process.again) n c
    → Swept g.P.Process.ended g.P.Process.bytes g.P.Process.among g.P.Process.saved (stepping (stepping_of begin g.P.Process.turned g.P.Process.answered g.P.Process.again)) n first c es l.fn.self l.fn.effects
    → Swept g.P.Process.ended g.P.Process.bytes g.P.Process.among g.P.Process.saved (stepping (stepping_of begin g.P.Process.turned g.P.Process.answered g.P.Process.again)) n first c (es ++ times l.counter (taken l.traffic l.from l.to)) l.self l.effects)
