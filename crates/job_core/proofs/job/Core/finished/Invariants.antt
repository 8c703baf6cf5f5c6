use Rattle.std.proofs.Common.{◌≡◌, ℕ, true, not}
use Rattle.std.specs.Prelude.{◌&&◌, is_some}
use Rattle.core_laws.specs.Core as definition
use Rattle.core_laws.specs.Handling.{all_below}
use Rattle.job_core.specs.Cores.{IsCore}
use Rattle.job_core.proofs.job.Core.finished.Given as goal

abbrev pub invariant-loop-rank : goal.invariant-loop-rank
invariant-loop-rank g l = (n : ℕ) (first : ℕ → ℕ) (c : definition.Core g.row.P.Denot) → IsCore g.P.Process.ended g.P.Process.bytes g.P.Process.among n first l.self c → all_below l.rank (λ r. not (c.killed r) && is_some (g.P.Process.ended (c.one r).rank.machine)) ≡ true
